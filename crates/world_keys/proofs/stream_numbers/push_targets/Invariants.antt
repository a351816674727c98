-- What is there, and the halves of the target registers that are left, are all; those before are read back.
use Rattle.std.proofs.Common.{◌≡◌, ◌++◌, map, take, drop}
use Rattle.stream_core.specs.StatusWords.{status_number}
use Rattle.world_keys.specs.StreamNumbers.{all_halves, reread}
use Rattle.world_keys.proofs.stream_numbers.push_targets.Given as goal

abbrev pub invariant-loop-target : goal.invariant-loop-target
invariant-loop-target l = record {
  numbers :
      l.numbers.items ++ all_halves (drop l.target (map status_number l.stream.targets))
      ≡ l.fn.numbers.items ++ all_halves (map status_number l.stream.targets);
  kept : map reread (take l.target l.stream.targets) ≡ take l.target l.stream.targets;
}
