use Rattle.std.proofs.Common.{◌≡◌, ◌++◌, ◌-◌, string_bytes}
use Rattle.stream_core.specs.StreamText.{register_lines, target_lines, stream_text_of}
use Rattle.stream_core.proofs.stream_texts.stream_text.Given as goal

-- the text so far and the lines to come are the whole text
abbrev pub invariant-loop-register : goal.invariant-loop-register
invariant-loop-register l =
    string_bytes l.text ++ register_lines l.stream.registers (32 - l.register) l.register
    ++ target_lines l.stream.targets 8 0 ≡ stream_text_of l.stream

abbrev pub invariant-loop-target : goal.invariant-loop-target
invariant-loop-target l =
    string_bytes l.text ++ target_lines l.stream.targets (8 - l.target) l.target ≡ stream_text_of l.stream
