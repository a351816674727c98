use Rattle.std.proofs.Common.{◌≡◌, ◌++◌}
use Rattle.replay_debugger.specs.StopFinders.{watches_of}
use Rattle.replay_debugger.proofs.Entries.{watches_among}
use Rattle.replay_debugger.proofs.watched_words.watched_words.Given as goal

-- the words so far and those of the entries to come are those of all points
abbrev pub invariant-loop-key : goal.invariant-loop-key
invariant-loop-key g l = record {
  can : (goal.iterator-loop-key g).can_next l._key-iterator;
  finite : (goal.iterator-loop-key g).is_finite l._key-iterator;
  words : l.words.items ++ watches_among l.machine.world.memory l._key-iterator
      ≡ watches_of l.machine.world.memory l.points;
}
