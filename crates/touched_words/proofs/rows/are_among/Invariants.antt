use Rattle.std.proofs.Common.{ℕ, ◌<◌, IsTrue}
use Rattle.touched_words.specs.TouchTables.{is_marked}
use Rattle.touched_words.proofs.rows.are_among.Given as goal

abbrev pub invariant-loop-word : goal.invariant-loop-word
invariant-loop-word l = (n : ℕ) → n < l.word → IsTrue (is_marked l.some n) → IsTrue (is_marked l.all n)
