use Rattle.std.proofs.Common.{◌≡◌, ℕ, ◌+◌, ◌≤◌, List, [], length, drop, filter, Some}
use Rattle.std.specs.List.{slice_index_or}
use Rattle.std.specs.Option.{option_copied}
use Rattle.text_parts.specs.Pieces.{rest_length}
use Rattle.expectation_files.specs.Words.{is_word, statement, words_on}
use Rattle.expectation_files.specs.WordSpans.{placed_from, words_among, placed_words, span_after, span_numbered, rest_between_blanks}
use Rattle.expectation_files.proofs.word_spans.word_span.Given as goal

-- the word that is asked for is the one of the number that is left, among the pieces that are left
abbrev pub invariant-loop-rest : goal.invariant-loop-rest
invariant-loop-rest l = record {
  stands :
      span_after l.end (words_among (placed_from l.before (rest_between_blanks (option_copied l.rest)))) l.left
      ≡ span_numbered (placed_words l.line) l.number;
  word :
      slice_index_or (filter is_word (rest_between_blanks (option_copied l.rest))) l.left []
      ≡ slice_index_or (words_on l.line) l.number [];
  rest : (r : List ℕ) → option_copied l.rest ≡ Some r → drop l.before (statement l.line) ≡ r;
  within : l.before + rest_length (option_copied l.rest) ≤ length (statement l.line) + 1;
  end : l.end ≤ length (statement l.line);
}

abbrev pub decreases-loop-rest : goal.decreases-loop-rest
decreases-loop-rest l = rest_length (option_copied l.rest)
