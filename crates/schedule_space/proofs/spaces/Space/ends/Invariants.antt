-- the marks so far are of the first worlds
use Rattle.std.proofs.Common.{◌≡◌, ℕ, ◌<◌, length}
use Rattle.std.specs.Prelude.{◌↔◌}
use Rattle.schedule_space.specs.Spaces.{world_of}
use Rattle.schedule_space.specs.Reaching.{IsMarked, IsEnd}
use Rattle.schedule_space.proofs.spaces.Space.ends.Given as goal

abbrev pub invariant-loop-place : goal.invariant-loop-place
invariant-loop-place l = record {
  each : length l.marks.items ≡ l.place;
  ends : (k : ℕ) → k < l.place → IsMarked l.marks.items k ↔ IsEnd l.self.image (world_of l.self k);
}
