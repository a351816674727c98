-- Where the streams of a world stand in the text of its program.
use Rattle.std.specs.Prelude.{ℕ, List, Option, Some, None, slice_get}
use Rattle.stream_core.specs.Streams.{StreamValue}
use Rattle.source_places.specs.ProgramLines.{LineValue}

-- the pc of a stream, where there is one
abbrev pub pc_in : Option StreamValue → Option ℕ
pc_in None = None
pc_in (Some v) = Some v.ssw.pc

-- the line of the program word at a pc, where there is one
abbrev pub line_at : List LineValue → Option ℕ → Option LineValue
line_at lines None = None
line_at lines (Some pc) = slice_get lines pc
