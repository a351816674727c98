-- from the marked worlds an end can be reached; where none was marked, the edges from this one on lead to no marked
-- world from another
use Rattle.std.proofs.Common.{◌≡◌, ℕ, ◌≤◌, ◌<◌, true, false, length, get_or}
use Rattle.schedule_space.specs.declared.links.Edge.{Edge}
use Rattle.schedule_space.specs.Reaching.{IsMarked, CanAllEnd, AreMarkedToo, marked}
use Rattle.schedule_space.proofs.spaces.Space.mark_before.Given as goal

abbrev pub invariant-loop-number : goal.invariant-loop-number
invariant-loop-number l = record {
  can : CanAllEnd l.self l.marks;
  kept : AreMarkedToo l.fn.marks l.marks;
  low : marked l.fn.marks ≤ marked l.marks;
  more : l.is_more ≡ true → marked l.fn.marks < marked l.marks;
  back :
      l.is_more ≡ false → (j : ℕ) (d : Edge) → l.number ≤ j → j < length l.edges
      → IsMarked l.marks (get_or l.edges j d).to → IsMarked l.marks (get_or l.edges j d).from;
}
