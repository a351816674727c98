-- Each word so far is there, and their sum is known.
use Rattle.std.proofs.Common.{◌≡◌, ℕ, ◌<◌, ◌%◌, ◌^◌, true}
use Rattle.expectations.specs.WordRanges.{is_there, word_behind, sum_of_words}
use Rattle.expectations.proofs.word_ranges.is_sum.Given as goal

abbrev pub invariant-loop-number : goal.invariant-loop-number
invariant-loop-number g l = record {
  there : (k : ℕ) → k < l.number → is_there (word_behind l.machine.world.memory l.first k) ≡ true;
  sum : l.sum ≡ sum_of_words l.machine.world.memory l.first l.number % 2 ^ 64;
}
