-- Each of the claims so far is shown.
use Rattle.std.proofs.Common.{◌≡◌, ◌<◌, ℕ, Some, slice_get}
use Rattle.claims.specs.declared.claim.Claim.{Claim}
use Rattle.seed_verdicts.specs.ShownBySeeds.{IsShownBySeeds}
use Rattle.seed_verdicts.proofs.shown_claims.first_unshown_by_seeds.Given as goal

abbrev pub invariant-loop-place : goal.invariant-loop-place
invariant-loop-place g l =
    (k : ℕ) → k < l.place → (c : Claim) → slice_get l.claims k ≡ Some c → IsShownBySeeds l.image l.fair l.seeds c
