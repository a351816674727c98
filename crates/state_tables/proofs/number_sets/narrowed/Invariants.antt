-- the numbers so far
use Rattle.std.proofs.Common.{◌≡◌, take}
use Rattle.state_tables.proofs.number_sets.narrowed.Given as goal

abbrev pub invariant-loop-number : goal.invariant-loop-number
invariant-loop-number l = l.narrow.items ≡ take l.number-index l.numbers
