use Rattle.std.proofs.Common.{◌≡◌, ◌++◌, map, drop, string_bytes}
use Rattle.editor_wire.specs.Wire.{framed_all}
use Rattle.editor_wire.proofs.outbox.framed_texts.Given as goal

-- the bytes so far and the messages to come are all of them
abbrev pub invariant-loop-text : goal.invariant-loop-text
invariant-loop-text l =
    string_bytes l.out ++ framed_all (map string_bytes (drop l.text-index l.texts))
    ≡ framed_all (map string_bytes l.texts)
