-- the steps so far are the last ones of the schedule, and those of this place come before them
use Rattle.std.proofs.Common.{◌≤◌, ◌+◌, [], get_or}
use Rattle.schedule_space.specs.Spaces.{schedules}
use Rattle.schedule_space.proofs.Reading.{IsReadTo}
use Rattle.schedule_space.proofs.routes.steps_back.Given as goal

abbrev pub invariant-loop-taken : goal.invariant-loop-taken
invariant-loop-taken l = record {
  read :
      IsReadTo l.route.begin.now l.route.links.now l.here l.steps.items (get_or (schedules l.route.begin.now l.route.links.now) l.route.place []);
  low : l.here + l.taken ≤ l.route.place;
}
