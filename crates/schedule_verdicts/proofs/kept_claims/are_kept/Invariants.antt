-- Each of the claims so far holds of each world.
use Rattle.std.proofs.Common.{◌<◌, ℕ, get_or}
use Rattle.claims.specs.declared.claim.Claim.{Claim}
use Rattle.schedule_verdicts.specs.KeptClaims.{IsKept}
use Rattle.schedule_verdicts.proofs.kept_claims.are_kept.Given as goal

abbrev pub invariant-loop-number : goal.invariant-loop-number
invariant-loop-number g l = (j : ℕ) (d : Claim) → j < l.number → IsKept l.space (get_or l.claims j d)
