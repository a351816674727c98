-- The blanks so far stand behind the text, and there is room for the rest.
use Rattle.std.proofs.Common.{◌≡◌, ◌+◌, ◌≤◌, ◌++◌, length, replicate, string_bytes}
use Rattle.std.specs.String.{string_len, string_capacity}
use Rattle.text_parts.proofs.appended.push_right_aligned.Given as goal

abbrev pub invariant-loop-blank : goal.invariant-loop-blank
invariant-loop-blank g l = record {
  bytes : string_bytes l.text ≡ string_bytes l.initial.text ++ replicate l._blank 32;
  len : string_len l.text ≡ string_len l.initial.text + l._blank;
  room : string_len l.initial.text + (l.blanks + length l.digits) ≤ string_capacity l.text;
}
