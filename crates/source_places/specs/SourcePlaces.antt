-- What the code has of lines and labels.
use Rattle.std.specs.Prelude.{List, map}
use Rattle.source_places.specs.ProgramLines.{LineValue}
use Rattle.source_places.specs.SourceLabels.{LabelValue}
use Rattle.source_places.specs.DataLines.{DataLineValue}
use Rattle.source_places.specs.DataNames.{DataNameValue}
use Rattle.source_places.specs.declared.data_names.DataName.{DataName}
use Rattle.source_places.specs.declared.lines.DataLine.{DataLine}
use Rattle.source_places.specs.declared.lines.ProgramLine.{ProgramLine}
use Rattle.source_places.specs.declared.source_places.SourceLabel.{SourceLabel}

abbrev pub line_seen : ProgramLine → LineValue
line_seen l = record { number = l.number; bytes = l.bytes.now }

abbrev pub lines_seen : List ProgramLine → List LineValue
lines_seen ls = map line_seen ls

abbrev pub label_seen : SourceLabel → LabelValue
label_seen l = record { name = l.name.now; place = l.place }

abbrev pub labels_seen : List SourceLabel → List LabelValue
labels_seen ls = map label_seen ls

abbrev pub data_line_seen : DataLine → DataLineValue
data_line_seen l = record { number = l.number; bytes = l.bytes.now; first = l.first; count = l.count }

abbrev pub data_lines_seen : List DataLine → List DataLineValue
data_lines_seen ls = map data_line_seen ls

abbrev pub data_name_seen : DataName → DataNameValue
data_name_seen n = record { number = n.number; name = n.name.now; first = n.first; count = n.count }

abbrev pub data_names_seen : List DataName → List DataNameValue
data_names_seen ns = map data_name_seen ns
