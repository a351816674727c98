-- the lists so far
use Rattle.state_tables.specs.NumberSets.{AreSets}
use Rattle.state_tables.proofs.number_sets.sets_of.Given as goal

abbrev pub invariant-loop-list : goal.invariant-loop-list
invariant-loop-list l = AreSets l.lists l.list-index l.table l.set_of.items
