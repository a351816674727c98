use Rattle.std.proofs.Common.{refl, rules}
use Rattle.schedule_verdicts.specs.RightEnds.{is_stop_expected}
use Rattle.schedule_verdicts.proofs.Looking.{one_more, all_looked_at}
use Rattle.schedule_verdicts.proofs.right_ends.are_traps_expected.Goals as goal

pub returns-then-not-is_stop_expected : goal.returns-then-not-is_stop_expected
returns-then-not-is_stop_expected g c = (
  λ no. absurd cc,
  λ all.
      let so = all (record { p = c.loop-p.p; s = c.loop-s.s }) in
      let found = c.is_stop_expected.ensures in
      let no = c.if-not-is_stop_expected.true in
      search rules,
)

pub loop-p-preserved : goal.loop-p-preserved
loop-p-preserved g c =
    one_more (is_stop_expected c.args.expected.now) (λ p s. refl) g.row.S c.args.machine.now c.loop-p.p c.loop-s.s
    c.image-image.ensures.kept (search rules) c.loop-p.invariant c.loop-s.invariant

pub returns : goal.returns
returns g c = (
  λ yes.
      all_looked_at (is_stop_expected c.args.expected.now) (λ p s. refl) g.row.S c.args.machine.now c.loop-p.p
      c.image-image.ensures.kept (search rules) c.loop-p.invariant,
  λ all. refl,
)
