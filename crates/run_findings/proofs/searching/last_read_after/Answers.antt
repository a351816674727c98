use Rattle.std.proofs.Common.{◌<◌, cond, Some, sym, ap, ◌∙◌, arith}
use Rattle.run_findings.specs.Actions.{read_by}
use Rattle.run_findings.specs.Places.{last_before}
use Rattle.run_findings.specs.Links.{later}
use Rattle.run_findings.proofs.Chains.{own-none, own-is, own-below, read-word, later-cut}
use Rattle.run_findings.proofs.searching.last_read_after.Goals as goal

pub returns-then-not-is_after-clause-is : goal.returns-then-not-is_after-clause-is
returns-then-not-is_after-clause-is c =
    let ds = c.args.actions.now in
    let own = read_by c.args.stream c.args.word in
    later-cut c.args.write c.in-Some.read (last_before own ds c.loop-read.step)
    (sym c.is_after.ensures ∙ c.if-not-is_after.true)
    (own-below ds c.args.stream c.args.word c.loop-read.step c.in-Some.read (sym c.in-Some.ensures.is))
    ∙ ap (later c.args.write) c.loop-read.invariant.same

pub returns-then-is_by-clause-is : goal.returns-then-is_by-clause-is
returns-then-is_by-clause-is c =
    let ds = c.args.actions.now in
    let own = read_by c.args.stream c.args.word in
    let low : c.in-Some.read < c.loop-read.step = c.in-Some.ensures.below in
    ap (later c.args.write)
    (sym (own-is ds c.args.stream c.args.word c.loop-read.step c.in-Some.read _ (omega arith) (sym c.in-Some.ensures.is)
    ∙ ap (λ b. cond b (Some c.in-Some.read) (last_before own ds c.in-Some.read)) (sym c.is_by.ensures ∙ c.if-is_by.true))
    ∙ c.loop-read.invariant.same)

pub loop-read-preserved : goal.loop-read-preserved
loop-read-preserved c =
    let ds = c.args.actions.now in
    let own = read_by c.args.stream c.args.word in
    let low : c.in-Some.read < c.loop-read.step = c.in-Some.ensures.below in
    record {
      within = omega arith;
      word = read-word ds c.args.word c.loop-read.step c.in-Some.read (sym c.in-Some.ensures.is);
      same =
          sym (own-is ds c.args.stream c.args.word c.loop-read.step c.in-Some.read _ (omega arith)
          (sym c.in-Some.ensures.is)
          ∙ ap (λ b. cond b (Some c.in-Some.read) (last_before own ds c.in-Some.read))
          (sym c.is_by.ensures ∙ c.if-is_by.false))
          ∙ c.loop-read.invariant.same;
    }

pub returns-clause-is : goal.returns-clause-is
returns-clause-is c =
    let ds = c.args.actions.now in
    ap (later c.args.write)
    (sym (own-none ds c.args.stream c.args.word c.loop-read.step (sym c.last_read.ensures.is ∙ c.in_default.is))
    ∙ c.loop-read.invariant.same)
