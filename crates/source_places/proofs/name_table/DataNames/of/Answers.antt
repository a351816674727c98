use Rattle.std.proofs.Common.{rules}
use Rattle.source_places.specs.NameTables.{name_in_table}
use Rattle.source_places.proofs.name_table.DataNames.of.Goals as goal

pub loop-name-init : goal.loop-name-init
unfolding name_in_table
loop-name-init c = λ q. search rules
