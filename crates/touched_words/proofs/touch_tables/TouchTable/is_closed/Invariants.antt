use Rattle.std.proofs.Common.{◌≡◌, ℕ, ◌<◌, IsTrue, slice_get}
use Rattle.insn_word.specs.declared.insn.Insn.{Insn}
use Rattle.stream_core.specs.StreamRow.{fetch_word}
use Rattle.stream_core.specs.declared.steps.Fetch.TheVariants as fetch
use Rattle.touched_words.specs.TouchTables.{is_closed}
use Rattle.touched_words.specs.ClosedTables.{IsClosedAt}
use Rattle.touched_words.proofs.touch_tables.TouchTable.is_closed.Given as goal

abbrev pub invariant-loop-place : goal.invariant-loop-place
invariant-loop-place l =
    (k : ℕ) → k < l.place → IsTrue (is_closed l.self.closed k)
    → (i : Insn) × ((fetch_word l.profile (slice_get l.program k) ≡ fetch.Instruction i) × IsClosedAt l.self k i)
