use Rattle.std.proofs.Common.{below_more, ℕ, arith, subst, IsTrue}
use Rattle.std.specs.Prelude.{slice_get}
use Rattle.stream_core.specs.StreamRow.{fetch_word}
use Rattle.local_steps.specs.SettledEndings.{is_settled_place}
use Rattle.local_steps.specs.CalmPlaces.{IsCalmAt}
use Rattle.local_steps.proofs.Settled.{calm_places}
use Rattle.local_steps.proofs.settling.are_calm.Goals as goal

pub loop-place-preserved : goal.loop-place-preserved
loop-place-preserved c =
    below_more _ _ c.loop-place.invariant
    (subst
    (λ (k : ℕ). IsTrue (is_settled_place c.args.places.now k)
    → IsCalmAt c.args.places.now k (fetch_word c.args.profile (slice_get c.args.program.now k)))
    c.in-Ok.ensures.1 (c.is_calm_if_settled.ensures c.if-not-is_calm_if_settled.false))

pub returns : goal.returns
returns c done =
    calm_places c.args.profile c.args.program.now c.args.places.now
    (λ k below. c.loop-place.invariant k (omega arith))
