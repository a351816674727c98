use Rattle.std.proofs.Common.{◌≡◌, ℕ, ◌||◌}
use Rattle.std.specs.List.{list_any}
use Rattle.replay_debugger.specs.StopFinders.{has_place, slot_breaks_at}
use Rattle.replay_debugger.proofs.Entries.{entry_breaks_at}
use Rattle.replay_debugger.proofs.breakpoints.Breakpoints.of.Given as goal

-- the places so far and those of the entries to come are those of all points
abbrev pub invariant-loop-key : goal.invariant-loop-key
invariant-loop-key l = record {
  can : (goal.iterator-loop-key).can_next l._key-iterator;
  finite : (goal.iterator-loop-key).is_finite l._key-iterator;
  places : (p pc : ℕ) → (has_place l.breakpoints p pc || list_any (entry_breaks_at p pc) l._key-iterator)
      ≡ list_any (slot_breaks_at p pc) l.points;
}
