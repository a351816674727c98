use Rattle.std.proofs.Common.{rules, ◌≡◌, ◌∙◌, ap, subst, w8, to_z, of_z}
use Rattle.stream_core.specs.Effects.{skip_pc}
use Rattle.touched_words.specs.ClosedTables.{LeadsOn}
use Rattle.touched_words.proofs.Leading.{skip_leads}
use Rattle.touched_words.proofs.touch_tables.TouchTable.leads_on.Goals as goal

pub returns-then-leads_past : goal.returns-then-leads_past
returns-then-leads_past c =
    let same : to_z w8 (of_z w8 c.in-Normal.c.n) ≡ c.in-Normal.c.n = search rules in
    λ yes j goes.
    skip_leads c.args.self.now c.args.insn.now c.args.place c.in-Normal.look c.in-Normal.m c.in-Normal.a c.in-Normal.c
    c.in-Normal.is c.in-Skip.is (c.leads_past.ensures c.if-leads_past.true)
    (subst (LeadsOn c.args.self.now c.args.insn.now c.args.place)
    (c.skipped.ensures ∙ ap (skip_pc c.args.place) same) (c.leads_to-then-leads_past.ensures yes))
    j goes
