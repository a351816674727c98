use Rattle.std.proofs.Common.{◌≡◌, ℕ, List, drop}
use Rattle.std.specs.Option.{option_or}
use Rattle.source_places.specs.DataNames.{first_called}
use Rattle.source_places.specs.SourcePlaces.{data_names_seen}
use Rattle.source_places.specs.NameTables.{name_in_table}
use Rattle.source_places.proofs.name_table.DataNames.of.Given as goal

abbrev pub invariant-loop-name : goal.invariant-loop-name
invariant-loop-name l = (q : List ℕ)
    → option_or (name_in_table l.table q) (first_called q (data_names_seen (drop l.name-index l.names)))
    ≡ first_called q (data_names_seen l.names)
