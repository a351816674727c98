use Rattle.source_slips.specs.MostCodes.{IsLeast}
use Rattle.source_slips.proofs.made_codes.codes_made.Given as goal

abbrev pub invariant-loop-round : goal.invariant-loop-round
invariant-loop-round l = IsLeast l.image l.made.most.items l.made.anywhere
