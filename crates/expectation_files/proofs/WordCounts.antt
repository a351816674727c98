-- How many words a text can have.
use Rattle.std.proofs.Common.{◌≤◌, ℕ, ◌+◌, List, length, arith}
use Rattle.std.specs.List.{slice_split}
use Rattle.std.proofs.lemmas.List.Splits.{length-slice_split}
use Rattle.std.proofs.lemmas.List.Sums.{length-filter, count_by-le-length}
use Rattle.expectation_files.specs.Words.{is_blank, is_word, words_of}

-- at most one more than bytes
pub few_words : (text : List ℕ) → length (words_of text) ≤ length text + 1
unfolding words_of
few_words text =
    let words = length-filter is_word (slice_split is_blank text) in
    let within = count_by-le-length is_word (slice_split is_blank text) in
    let parts = length-slice_split is_blank text in
    let blanks = count_by-le-length is_blank text in
    omega (arith, words, within, parts, blanks)
