-- the numbers of the marks so far
use Rattle.space_graphs.specs.Ahead.{AreMarkNumbers}
use Rattle.space_graphs.proofs.ahead.numbers_at.Given as goal

abbrev pub invariant-loop-index : goal.invariant-loop-index
invariant-loop-index l = AreMarkNumbers l.marks l.place l.index l.numbers.items
