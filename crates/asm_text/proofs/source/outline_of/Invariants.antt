use Rattle.std.proofs.Common.{◌≡◌, ℕ, ◌+◌, ◌≤◌, List, length, unwrap_or}
use Rattle.std.specs.Option.{option_copied, option_or}
use Rattle.asm_line.specs.Lines.{lines, place, count_words, rest_lines}
use Rattle.asm_line.specs.Profiles.{profile_of}
use Rattle.asm_line.specs.Labels.{places_of}
use Rattle.text_parts.specs.Pieces.{rest_length}
use Rattle.asm_text.proofs.Standing.{moved}
use Rattle.asm_text.proofs.source.outline_of.Given as goal

abbrev pub invariant-loop-rest : goal.invariant-loop-rest
invariant-loop-rest l = record {
  profile : unwrap_or l.profile (profile_of (rest_lines (option_copied l.rest))) ≡ profile_of (lines l.text);
  labels : (name : List ℕ) → option_or (places_of l.labels name)
      (moved l.number l.words (place (rest_lines (option_copied l.rest)) name)) ≡ place (lines l.text) name;
  words : l.words + count_words (rest_lines (option_copied l.rest)) ≡ count_words (lines l.text);
  number : l.number + rest_length (option_copied l.rest) ≤ length l.text + 1;
  few_words : l.words ≤ l.number;
}

abbrev pub decreases-loop-rest : goal.decreases-loop-rest
decreases-loop-rest l = rest_length (option_copied l.rest)
