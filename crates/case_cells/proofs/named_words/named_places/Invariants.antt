-- The places so far, and behind them those of the names that are left, are all places.
use Rattle.std.proofs.Common.{◌≡◌, ◌++◌, drop}
use Rattle.source_places.specs.SourcePlaces.{data_names_seen}
use Rattle.case_cells.specs.NamedWords.{named_places}
use Rattle.case_cells.proofs.named_words.named_places.Given as goal

abbrev pub invariant-loop-name : goal.invariant-loop-name
invariant-loop-name l =
    l.places.items ++ named_places (data_names_seen l.own) (data_names_seen (drop l.name-index l.given))
    ≡ named_places (data_names_seen l.own) (data_names_seen l.given)
