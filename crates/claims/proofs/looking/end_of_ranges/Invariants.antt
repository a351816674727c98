-- From there on no range of the claims so far has any.
use Rattle.std.proofs.Common.{◌≡◌, ◌≤◌, ℕ, false, take}
use Rattle.claims.specs.Looking.{is_looked_at}
use Rattle.claims.proofs.looking.end_of_ranges.Given as goal

abbrev pub invariant-loop-claim : goal.invariant-loop-claim
invariant-loop-claim l = (k : ℕ) → l.end ≤ k → is_looked_at (take l.claim-index l.claims) k ≡ false
