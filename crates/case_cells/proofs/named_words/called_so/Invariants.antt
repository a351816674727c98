use Rattle.std.proofs.Common.{◌≡◌, drop, find}
use Rattle.source_places.specs.DataNames.{is_called}
use Rattle.source_places.specs.SourcePlaces.{data_names_seen}
use Rattle.case_cells.proofs.named_words.called_so.Given as goal

-- none of those before is the one
abbrev pub invariant-loop-name : goal.invariant-loop-name
invariant-loop-name l =
    find (is_called l.text) (data_names_seen (drop l.name-index l.names))
    ≡ find (is_called l.text) (data_names_seen l.names)
