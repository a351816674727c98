-- The runs of the seeds so far don't show the claim.
use Rattle.seed_verdicts.specs.ShownBySeeds.{IsUnshownBefore}
use Rattle.seed_verdicts.proofs.shown_claims.is_shown_by_seeds.Given as goal

abbrev pub invariant-loop-place : goal.invariant-loop-place
invariant-loop-place g l = IsUnshownBefore l.image l.fair l.seeds l.claim l.place
