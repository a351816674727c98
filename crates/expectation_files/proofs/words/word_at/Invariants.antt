use Rattle.std.proofs.Common.{◌≡◌, [], length}
use Rattle.std.specs.List.{slice_index_or}
use Rattle.expectation_files.specs.Words.{words_of}
use Rattle.expectation_files.proofs.words.word_at.Given as goal

abbrev pub invariant-loop-word : goal.invariant-loop-word
invariant-loop-word l = slice_index_or (words_of l.rest) l.left [] ≡ slice_index_or (words_of l.text) l.number []

abbrev pub decreases-loop-word : goal.decreases-loop-word
decreases-loop-word l = length (words_of l.rest)
