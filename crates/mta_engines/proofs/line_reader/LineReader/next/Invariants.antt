use Rattle.std.proofs.Common.{◌≡◌, ◌≤◌, ℕ, List, length, take, vec_capacity}
use Rattle.mta_engines.specs.DebugOutput.{HasNoLineEnd}
use Rattle.mta_engines.specs.LineReading.{bytes_left, TakesBytes, most_kept}
use Rattle.mta_engines.proofs.Lines.{IsLineSoFar}
use Rattle.mta_engines.proofs.line_reader.LineReader.next.Given as goal

-- a part of a line was taken, of which the first bytes are kept
abbrev pub invariant-loop-byte : goal.invariant-loop-byte
invariant-loop-byte g l =
    IsLineSoFar l.fn.self.bytes (g.R.Read.remaining l.fn.reader) l.self.bytes (g.R.Read.remaining l.reader)
    l.self.line.bytes.items

abbrev pub decreases-loop-byte : goal.decreases-loop-byte
decreases-loop-byte g l = bytes_left l.self.bytes
