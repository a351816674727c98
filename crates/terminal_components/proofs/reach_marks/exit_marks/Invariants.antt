-- the places are marked that such links so far lead from
use Rattle.std.proofs.Common.{◌≡◌, ℕ, ◌<◌, length, slice_index}
use Rattle.terminal_components.specs.Ways.{link_at}
use Rattle.terminal_components.specs.ReachMarks.{IsExit}
use Rattle.terminal_components.proofs.reach_marks.exit_marks.Given as goal

abbrev pub invariant-loop-link : goal.invariant-loop-link
invariant-loop-link l = record {
  many : length l.marks.items ≡ length l.least;
  found :
      (k : ℕ) → k < length l.least → slice_index l.marks.items k ≡ 0
      → (i : ℕ) × (i < length l.links) × ((link_at l.links i).from ≡ k) × IsExit l.least (link_at l.links i);
  all :
      (i : ℕ) → i < l.link-index → IsExit l.least (link_at l.links i)
      → slice_index l.marks.items (link_at l.links i).from ≡ 0;
}
