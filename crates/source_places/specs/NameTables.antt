-- What a table of names says of a name.
use Rattle.std.specs.Prelude.{ℕ, List, Option}
use Rattle.std.specs.Option.{option_map}
use Rattle.std.specs.Str.{bytes_eq}
use Rattle.std.specs.Map.{lookup}
use Rattle.source_places.specs.DataNames.{DataNameValue}
use Rattle.source_places.specs.SourcePlaces.{data_name_seen}
use Rattle.source_places.specs.declared.name_table.DataNames.{DataNames}

unfoldable pub name_in_table : DataNames → List ℕ → Option DataNameValue
name_in_table t name = option_map data_name_seen (lookup (λ n. bytes_eq name n.now) t.by_name.entries)
