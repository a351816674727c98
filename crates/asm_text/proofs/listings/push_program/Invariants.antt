use Rattle.std.proofs.Common.{◌≡◌, ◌++◌, drop}
use Rattle.std.specs.Prelude.{string_bytes}
use Rattle.asm_text.specs.Listing.{text_of_lines, word_lines}
use Rattle.asm_text.proofs.listings.push_program.Given as goal

abbrev pub invariant-loop-place : goal.invariant-loop-place
invariant-loop-place l =
    string_bytes l.text ++ text_of_lines (word_lines l.image.profile l.place (drop l.place l.image.program))
    ≡ string_bytes l.initial.text ++ text_of_lines (word_lines l.image.profile 0 l.image.program)
