-- From there on no range of the groups so far has any.
use Rattle.std.proofs.Common.{◌≡◌, ◌≤◌, ℕ, false, take}
use Rattle.claims.specs.Looking.{is_in_groups}
use Rattle.claims.proofs.looking.end_of_groups.Given as goal

abbrev pub invariant-loop-group : goal.invariant-loop-group
invariant-loop-group l = (k : ℕ) → l.end ≤ k → is_in_groups k (take l.group-index l.groups) ≡ false
