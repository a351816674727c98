use Rattle.mta_engines.specs.LineReading.{bytes_left}
use Rattle.mta_engines.proofs.DebugSoFar.{AreSoFar}
use Rattle.mta_engines.proofs.debug_answers.answer_lines.Given as goal

abbrev pub invariant-loop-lines : goal.invariant-loop-lines
invariant-loop-lines g l =
    AreSoFar l.fn.session (g.C.Read.remaining l.fn.commands) (g.W.Write.contents l.fn.writer) l.lines.bytes
    (g.C.Read.remaining l.commands) l.session (g.W.Write.contents l.writer)

abbrev pub decreases-loop-lines : goal.decreases-loop-lines
decreases-loop-lines g l = bytes_left l.lines.bytes
