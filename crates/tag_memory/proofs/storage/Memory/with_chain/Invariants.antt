-- The banks below the loop's have their words.
use Rattle.std.proofs.Common.{◌≡◌, ℕ, ◌<◌, [], length, get_or}
use Rattle.tag_memory.specs.Banks.{bank_count, every_eighth}
use Rattle.tag_memory.proofs.storage.Memory.with_chain.Given as goal

abbrev pub invariant-loop-first : goal.invariant-loop-first
invariant-loop-first l = record {
  eight : length l.banks ≡ bank_count;
  made : (k : ℕ) → k < l.first → get_or l.banks k [] ≡ every_eighth l.words k;
}
