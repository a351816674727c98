-- The steps so far are the same.
use Rattle.std.proofs.Common.{◌≡◌, take}
use Rattle.whole_runs.proofs.first_differences.shared_steps.Given as goal

abbrev pub invariant-loop-index : goal.invariant-loop-index
invariant-loop-index l = take l.index l.one ≡ take l.index l.other
