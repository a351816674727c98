use Rattle.std.proofs.Common.{◌≡◌, ℕ, false, IsTrue, arith, rules, slice_get}
use Rattle.std.specs.Prelude.{slice_index_or}
use Rattle.insn_word.specs.declared.insn.Insn.{Insn}
use Rattle.stream_core.specs.StreamRow.{fetch_word}
use Rattle.stream_core.specs.declared.steps.Fetch.TheVariants as fetch
use Rattle.program_flow.specs.Tables.{is_live_at, is_named_by}
use Rattle.first_sets.specs.UnreadLoads.{IsUnread}
use Rattle.schedule_space.proofs.UnreadPlaces.{one_place_more, all_unread}
use Rattle.schedule_space.proofs.unread_places.are_unread.Goals as goal

pub loop-place-preserved : goal.loop-place-preserved
loop-place-preserved c =
    let last : (i : Insn) → IsTrue (slice_index_or c.args.marks.now c.loop-place.place false)
    → fetch_word c.args.image.now.profile (slice_get c.args.image.now.program c.loop-place.place) ≡ fetch.Instruction i
    → IsUnread (λ r. IsTrue (is_named_by c.args.live.now.names r)) (λ n r. IsTrue (is_live_at c.args.live.now.table n r)) i
    c.loop-place.place =
    search rules in
    one_place_more
    (λ (k : ℕ). (i : Insn) → IsTrue (slice_index_or c.args.marks.now k false)
    → fetch_word c.args.image.now.profile (slice_get c.args.image.now.program k) ≡ fetch.Instruction i
    → IsUnread (λ r. IsTrue (is_named_by c.args.live.now.names r)) (λ n r. IsTrue (is_live_at c.args.live.now.table n r)) i k)
    c.loop-place.place c.loop-place.invariant last

pub returns : goal.returns
returns c =
    λ yes.
    all_unread c.args.live.now c.args.image.now.profile c.args.image.now.program c.args.marks.now c.loop-place.place
    (omega arith) c.loop-place.invariant
