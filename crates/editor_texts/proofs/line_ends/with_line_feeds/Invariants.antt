use Rattle.std.proofs.Common.{◌≡◌, ◌++◌, drop}
use Rattle.editor_texts.specs.LineEnds.{ended_from, with_line_feeds}
use Rattle.editor_texts.proofs.line_ends.with_line_feeds.Given as goal

-- what is left of the bytes so far, and what will be left of the others
abbrev pub invariant-loop-byte : goal.invariant-loop-byte
invariant-loop-byte l =
    l.ended.items ++ ended_from l.before (drop l.byte-index l.text) ≡ with_line_feeds l.text
