use Rattle.std.proofs.Common.{◌≡◌, ◌++◌, string_bytes, flat_map}
use Rattle.editor_wire.specs.JsonStrings.{string_char}
use Rattle.editor_wire.proofs.quoting.push_letters.Given as goal

-- the characters so far have been added
abbrev pub invariant-loop-letter : goal.invariant-loop-letter
invariant-loop-letter l = string_bytes l.out ≡ string_bytes l.initial.out ++ flat_map string_char l.yielded
