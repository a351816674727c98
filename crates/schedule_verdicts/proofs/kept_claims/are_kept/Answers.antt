use Rattle.std.proofs.Common.{◌≡◌, ◌∙◌, ◌≤◌, true, length, refl, ap, arith, rules}
use Rattle.std.specs.Prelude.{IsTrue}
use Rattle.std.proofs.lemmas.List.{length-map}
use Rattle.schedule_verdicts.specs.ClaimMarks.{marks_for}
use Rattle.schedule_verdicts.specs.KeptClaims.{IsKept}
use Rattle.schedule_verdicts.proofs.Marks.{space_at, all_kept, kept_more, kept_here}
use Rattle.schedule_verdicts.proofs.kept_claims.are_kept.Goals as goal

pub is_kept-requires : goal.is_kept-requires
is_kept-requires g c =
    space_at c.args.space.now c.args.claims.now c.in_ok-marks.marks.items c.loop-number.number c.index.result.now
    c.in_ok-marks.ensures.marks (search rules) c.index.ensures

pub returns-then-not-branch-clause-kept : goal.returns-then-not-branch-clause-kept
returns-then-not-branch-clause-kept g c = (
  λ no. absurd (cc),
  λ all.
      let m = c.index.result.now in
      let here : IsKept c.args.space.now m.claim =
      kept_here c.args.space.now c.args.claims.now c.in_ok-marks.marks.items c.loop-number.number m
      c.in_ok-marks.ensures.marks (search rules) c.index.ensures all in
      let yes : IsTrue c.in_ok-is_kept.field-0 = c.in_ok-is_kept.ensures.kept.1 here in
      let test = c.if-not-branch.true in
      first_of (cc, grind arith),
)

pub loop-number-preserved : goal.loop-number-preserved
loop-number-preserved g c =
    let m = c.index.result.now in
    let here : IsKept c.args.space.now m.claim = c.in_ok-is_kept.ensures.kept.0 (search rules) in
    kept_more c.args.space.now c.args.claims.now c.in_ok-marks.marks.items c.loop-number.number m
    c.in_ok-marks.ensures.marks (search rules) c.index.ensures here c.loop-number.invariant

pub returns-clause-kept : goal.returns-clause-kept
returns-clause-kept g c = (
  λ yes.
      let v = c.args.space.now in
      let claims = c.args.claims.now in
      let long : length c.in_ok-marks.marks.items ≡ length claims =
      ap length c.in_ok-marks.ensures.marks ∙ length-map claims (marks_for v) in
      let past : length c.in_ok-marks.marks.items ≤ c.loop-number.number = search rules in
      all_kept v claims (λ j d within. c.loop-number.invariant j d (omega (arith, within, long, past))),
  λ all. refl,
)
