-- Turns as in a link to a page.
use Rattle.std.specs.Prelude.{ℕ, if◌then◌else◌, nat_lt, List, ◌++◌, codes}
use Rattle.std.specs.List.{join_by}
use Rattle.std.specs.Fmt.{decimal}
use Rattle.schedule_turns.specs.declared.turns.Turn.{Turn}

-- processor and stream
abbrev pub link_stream : Turn → List ℕ
link_stream t = decimal t.stream.p ++ codes "." ++ decimal t.stream.s

-- processor and stream, and how often, if more than once
unfoldable pub link_turn : Turn → List ℕ
link_turn t = if nat_lt 1 t.count then link_stream t ++ codes "x" ++ decimal t.count else link_stream t

-- a turn after another one
abbrev pub next_link_turn : Turn → List ℕ
next_link_turn t = codes "," ++ link_turn t

-- the turns, with commas between
abbrev pub link_turns : List Turn → List ℕ
link_turns turns = join_by link_turn (codes ",") turns
