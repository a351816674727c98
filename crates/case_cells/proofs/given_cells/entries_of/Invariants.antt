-- The entries of the processors so far.
use Rattle.std.proofs.Common.{◌≡◌, take}
use Rattle.case_cells.proofs.given_cells.entries_of.Given as goal

abbrev pub invariant-loop-processor : goal.invariant-loop-processor
invariant-loop-processor l = l.entries.items ≡ take l.processor l.image.entries
