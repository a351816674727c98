use Rattle.std.proofs.Common.{◌≡◌, ℕ, List, take, count_by}
use Rattle.source_places.specs.DataNames.{is_called}
use Rattle.source_places.specs.SourcePlaces.{data_names_seen}
use Rattle.source_places.specs.TimesSaid.{times_in}
use Rattle.source_places.proofs.data_names.times_said.Given as goal

abbrev pub invariant-loop-name : goal.invariant-loop-name
invariant-loop-name l = (q : List ℕ) → times_in l.times q ≡ count_by (is_called q) (data_names_seen (take l.name-index l.said))
