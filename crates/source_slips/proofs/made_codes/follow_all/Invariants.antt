use Rattle.source_slips.specs.MostCodes.{IsLeast}
use Rattle.source_slips.proofs.made_codes.follow_all.Given as goal

abbrev pub invariant-loop-place : goal.invariant-loop-place
invariant-loop-place l =
    IsLeast l.image l.initial.made.most.items l.initial.made.anywhere → IsLeast l.image l.made.most.items l.made.anywhere
