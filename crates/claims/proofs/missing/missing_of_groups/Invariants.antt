-- What the groups to come lack is what all lack.
use Rattle.std.proofs.Common.{◌≡◌, drop}
use Rattle.claims.specs.Missing.{missing_of_groups}
use Rattle.claims.proofs.missing.missing_of_groups.Given as goal

abbrev pub invariant-loop-group : goal.invariant-loop-group
invariant-loop-group l = missing_of_groups l.image (drop l.group-index l.groups) ≡ missing_of_groups l.image l.groups
