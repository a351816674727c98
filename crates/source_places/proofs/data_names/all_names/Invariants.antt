use Rattle.std.proofs.Common.{◌≡◌, ◌++◌, drop}
use Rattle.source_places.specs.DataNames.{names_said}
use Rattle.source_places.specs.SourcePlaces.{data_lines_seen, data_names_seen}
use Rattle.source_places.proofs.data_names.all_names.Given as goal

abbrev pub invariant-loop-line : goal.invariant-loop-line
invariant-loop-line l =
    data_names_seen l.said.items ++ names_said (data_lines_seen (drop l.line-index l.lines))
    ≡ names_said (data_lines_seen l.lines)
