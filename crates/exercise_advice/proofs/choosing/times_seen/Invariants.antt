-- So many of the observations before the place fit.
use Rattle.std.proofs.Common.{◌≡◌, ◌≤◌, count_by, take}
use Rattle.exercise_advice.specs.Facts.{fits}
use Rattle.exercise_advice.proofs.choosing.times_seen.Given as goal

abbrev pub invariant-loop-one : goal.invariant-loop-one
invariant-loop-one l = record {
  times : l.times ≡ count_by (fits l.fact) (take l.one-index l.seen);
  within : l.times ≤ l.one-index;
}
