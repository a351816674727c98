-- The streams so far that can go on are kept.
use Rattle.std.proofs.Common.{◌≡◌, take}
use Rattle.space_ends.specs.Words.{running_in}
use Rattle.space_ends.proofs.end_values.SpaceEnd.running.Given as goal

abbrev pub invariant-loop-stream : goal.invariant-loop-stream
invariant-loop-stream l = l.running.items ≡ running_in (take l.stream-index l.stream-items)
