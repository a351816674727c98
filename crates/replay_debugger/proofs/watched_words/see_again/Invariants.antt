use Rattle.std.proofs.Common.{◌≡◌, ◌++◌, map, take, drop}
use Rattle.replay_debugger.specs.StopFinders.{seen_again}
use Rattle.replay_debugger.proofs.watched_words.see_again.Given as goal

-- the words so far are seen again
abbrev pub invariant-loop-place : goal.invariant-loop-place
invariant-loop-place g l = record {
  words : l.words ≡ map (seen_again l.machine.world.memory) (take l.place l.initial.words)
      ++ drop l.place l.initial.words;
}
