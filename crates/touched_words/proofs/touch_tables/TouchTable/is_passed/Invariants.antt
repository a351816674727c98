use Rattle.std.proofs.Common.{◌≡◌, ◌≢◌, ℕ, ◌<◌, ◌⊎◌, true, false, IsTrue, Some, slice_get}
use Rattle.touched_words.specs.TouchTables.{is_marked}
use Rattle.touched_words.proofs.touch_tables.TouchTable.is_passed.Given as goal

abbrev pub invariant-loop-at : goal.invariant-loop-at
invariant-loop-at l =
    (n : ℕ) → n < l.at → IsTrue (is_marked l.touches n)
    → (slice_get l.self.words n ≢ Some l.asked)
    ⊎ (((l.is_changing ≡ false) × (is_marked l.changes n ≡ false))
    ⊎ ((l.is_quiet ≡ true) × (is_marked l.uses n ≡ false)))
