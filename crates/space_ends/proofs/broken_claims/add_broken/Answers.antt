use Rattle.std.proofs.Common.{◌≡◌, ◌∙◌, ◌≤◌, length, map, ap, arith, rules}
use Rattle.std.proofs.lemmas.List.{length-map}
use Rattle.seed_verdicts.specs.ScheduleVerdicts.ClaimMarks.{marks_for}
use Rattle.space_ends.specs.BrokenClaims.{value_of}
use Rattle.space_ends.proofs.Broken.{marked_more, claims_end}
use Rattle.space_ends.proofs.broken_claims.add_broken.Goals as goal

pub loop-index-preserved : goal.loop-index-preserved
loop-index-preserved g c = record {
  broken =
      marked_more c.args.space.now c.args.claims.now c.in_ok-marks.marks.items c.loop-index.index c.index.result.now
      (map value_of c.loop-index.ends.items) _ _ c.in_ok-marks.ensures (search rules) c.index.ensures
      c.in_ok-add_if_broken.ensures.broken c.loop-index.invariant.broken;
  ends = c.in_ok-add_if_broken.ensures.ends ∙ c.loop-index.invariant.ends;
  spinning = c.in_ok-add_if_broken.ensures.spinning ∙ c.loop-index.invariant.spinning;
  busy = c.in_ok-add_if_broken.ensures.busy ∙ c.loop-index.invariant.busy;
  shown = λ v expected all. c.in_ok-add_if_broken.ensures.shown v expected (c.loop-index.invariant.shown v expected all);
}

pub returns : goal.returns
returns g c =
    let claims = c.args.claims.now in
    let long : length c.in_ok-marks.marks.items ≡ length claims =
    ap length c.in_ok-marks.ensures ∙ length-map claims (marks_for c.args.space.now) in
    let past : length c.in_ok-marks.marks.items ≤ c.loop-index.index = search rules in
    record {
      broken =
          claims_end c.args.space.now claims c.loop-index.index _ _ (omega (arith, long, past))
          c.loop-index.invariant.broken;
      ends = c.loop-index.invariant.ends;
      spinning = c.loop-index.invariant.spinning;
      busy = c.loop-index.invariant.busy;
      shown = c.loop-index.invariant.shown;
    }
