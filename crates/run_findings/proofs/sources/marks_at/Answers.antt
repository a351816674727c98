use Rattle.std.proofs.Common.{◌<◌, length, sym, ◌∙◌, subst, arith}
use Rattle.std.proofs.lemmas.Option.{slice_get-get_or}
use Rattle.run_findings.specs.Sources.{AreAllAt}
use Rattle.run_findings.proofs.AllMarks.{at_some, at_none}
use Rattle.run_findings.proofs.sources.marks_at.Goals as goal

pub returns-in-Some : goal.returns-in-Some
returns-in-Some c =
    let ds = c.args.actions.now in
    let n = c.args.step in
    let p = c.in-Some.before in
    let below : p < n = c.in-Some.ensures.below in
    let inside : p < length ds = omega arith in
    subst (AreAllAt ds n) (sym c.after_deed.ensures)
    (at_some ds n p _ _ c.requires.step_in (sym c.own_before.ensures.is ∙ c.in-Some.is) (slice_get-get_or ds p _ inside)
    (c.requires.any.are p _ below))

pub returns-in-None : goal.returns-in-None
returns-in-None c = at_none c.args.actions.now c.args.step (sym c.own_before.ensures.is ∙ c.in-None.is)
