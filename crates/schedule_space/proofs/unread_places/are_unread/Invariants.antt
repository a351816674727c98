use Rattle.std.proofs.Common.{◌≡◌, ℕ, ◌<◌, false, IsTrue, slice_get}
use Rattle.std.specs.Prelude.{slice_index_or}
use Rattle.insn_word.specs.declared.insn.Insn.{Insn}
use Rattle.stream_core.specs.StreamRow.{fetch_word}
use Rattle.stream_core.specs.declared.steps.Fetch.TheVariants as fetch
use Rattle.program_flow.specs.Tables.{is_live_at, is_named_by}
use Rattle.first_sets.specs.UnreadLoads.{IsUnread}
use Rattle.schedule_space.proofs.unread_places.are_unread.Given as goal

abbrev pub invariant-loop-place : goal.invariant-loop-place
invariant-loop-place l =
    (k : ℕ) → k < l.place → (i : Insn) → IsTrue (slice_index_or l.marks k false)
    → fetch_word l.image.profile (slice_get l.image.program k) ≡ fetch.Instruction i
    → IsUnread (λ r. IsTrue (is_named_by l.live.names r)) (λ n r. IsTrue (is_live_at l.live.table n r)) i k
