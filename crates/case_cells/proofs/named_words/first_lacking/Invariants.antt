-- None of the names so far is lacking.
use Rattle.std.proofs.Common.{◌≡◌, drop}
use Rattle.source_places.specs.SourcePlaces.{data_names_seen}
use Rattle.case_cells.specs.NamedWords.{first_lacking}
use Rattle.case_cells.proofs.named_words.first_lacking.Given as goal

abbrev pub invariant-loop-name : goal.invariant-loop-name
invariant-loop-name l = record {
  place : l.place ≡ l.name-index;
  rest : first_lacking (data_names_seen l.own) l.place (data_names_seen (drop l.name-index l.given))
      ≡ first_lacking (data_names_seen l.own) 0 (data_names_seen l.given);
}
