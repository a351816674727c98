-- from the marked worlds an end can be reached, each end is marked, and each pass so far has marked one more
use Rattle.std.proofs.Common.{◌≤◌}
use Rattle.schedule_space.specs.Reaching.{CanAllEnd, HasEndsMarked, marked}
use Rattle.schedule_space.proofs.spaces.Space.can_end.Given as goal

abbrev pub invariant-loop-pass : goal.invariant-loop-pass
invariant-loop-pass l = record {
  can : CanAllEnd l.self l.marks.items;
  ends : HasEndsMarked l.self l.marks.items;
  more : l.pass ≤ marked l.marks.items;
}
