-- What was added, with what the other claims add, is what all add; the ends at which runs end, those that spin and those
-- where a stream loops alone stay.
use Rattle.std.proofs.Common.{◌≡◌, ◌++◌, List, map, drop}
use Rattle.expectations.specs.declared.expectation.Expectation.{Expectation}
use Rattle.seed_verdicts.specs.ScheduleSpace.Spaces.{SpaceValue}
use Rattle.space_ends.specs.BrokenClaims.{broken_ends, value_of}
use Rattle.space_ends.specs.EndsOfSpace.{ends_in}
use Rattle.space_ends.specs.Spinning.{spinning_in}
use Rattle.space_ends.specs.Loops.{busy_in}
use Rattle.space_ends.specs.Shown.{AreShownSo}
use Rattle.space_ends.proofs.broken_claims.add_broken.Given as goal

abbrev pub invariant-loop-index : goal.invariant-loop-index
invariant-loop-index g l =
    record {
      broken :
          map value_of l.ends.items ++ broken_ends l.fn.space l.index (drop l.index l.claims)
          ≡ map value_of l.initial.ends.items ++ broken_ends l.fn.space 0 l.claims;
      ends : ends_in l.ends.items ≡ ends_in l.initial.ends.items;
      spinning : spinning_in l.ends.items ≡ spinning_in l.initial.ends.items;
      busy : busy_in l.ends.items ≡ busy_in l.initial.ends.items;
      shown : (v : SpaceValue) (expected : List Expectation) → AreShownSo v expected l.initial.ends.items
          → AreShownSo v expected l.ends.items;
    }
