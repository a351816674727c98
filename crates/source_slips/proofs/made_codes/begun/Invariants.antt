use Rattle.source_slips.specs.MostCodes.{IsLeast}
use Rattle.source_slips.proofs.made_codes.begun.Given as goal

abbrev pub invariant-loop-processor : goal.invariant-loop-processor
invariant-loop-processor l = IsLeast l.image l.made.most.items l.made.anywhere
