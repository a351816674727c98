-- Each word so far is as expected.
use Rattle.std.proofs.Common.{◌≡◌, ℕ, ◌<◌, true}
use Rattle.expectations.specs.MemoryWords.{is_word}
use Rattle.expectations.specs.WordRanges.{word_behind}
use Rattle.expectations.proofs.word_ranges.are_words.Given as goal

abbrev pub invariant-loop-number : goal.invariant-loop-number
invariant-loop-number g l =
    (k : ℕ) → k < l.number → is_word l.value l.state (word_behind l.machine.world.memory l.first k) ≡ true
