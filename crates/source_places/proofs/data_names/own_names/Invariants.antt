use Rattle.std.proofs.Common.{◌≡◌, ◌++◌, drop, filter}
use Rattle.asm_line.specs.Labels.{places_of}
use Rattle.source_places.specs.DataNames.{is_own}
use Rattle.source_places.specs.SourcePlaces.{data_names_seen}
use Rattle.source_places.proofs.data_names.own_names.Given as goal

abbrev pub invariant-loop-name : goal.invariant-loop-name
invariant-loop-name l =
    data_names_seen l.names.items
    ++ filter (is_own (places_of l.labels) (data_names_seen l.said)) (data_names_seen (drop l.name-index l.said))
    ≡ filter (is_own (places_of l.labels) (data_names_seen l.said)) (data_names_seen l.said)
