-- What holds of a space in the making while a step is taken from the world at the end of a route.
use Rattle.std.proofs.Common.{◌≡◌, ℕ, List}
use Rattle.processor.specs.World.{after}
use Rattle.processor.specs.declared.steps.Step.{Step}
use Rattle.world_keys.specs.DeadRegisters.Clearing.{cleared}
use Rattle.world_keys.specs.Tables.{Extends}
use Rattle.world_keys.specs.WorldKeys.{key_of, IsKnown}
use Rattle.schedule_space.specs.declared.links.Link.{Link}
use Rattle.schedule_space.specs.declared.fates.Fate.{Fate}
use Rattle.schedule_space.specs.declared.known_steps.StepsSeen.{StepsSeen}
use Rattle.schedule_space.specs.Spaces.{SpaceValue, machine_by}
use Rattle.schedule_space.specs.StreamSteps.{AreAllLeft}
use Rattle.schedule_space.specs.Before.{IsBefore}
use Rattle.schedule_space.specs.Kept.{KeptValue, machine_at, machine_next, AreKept}
use Rattle.schedule_space.specs.Finding.{IsInTheMaking}
use Rattle.schedule_space.proofs.Kept.{by_route}
use Rattle.schedule_space.proofs.Keys.{found_later}
use Rattle.schedule_space.proofs.Placing.{live_at, steps_back}
use Rattle.schedule_space.proofs.Before.{next_before}

module _ (v w : SpaceValue) (fates : List Fate) (old new keys : List (List ℕ)) (seen steps : StepsSeen) (ms : KeptValue)
    (from place : ℕ) (begin : List Step) (links : List Link) (view : w ≡ v) (kept : AreKept v ms) (begins : begin ≡ w.begin)
    (linked : links ≡ w.links) (at : place ≡ from) (is : IsInTheMaking w fates old keys seen) where
  here : machine_by ms.first.image begin links place ≡ machine_at v from
  here = by_route v w ms from begin links place view kept begins linked at

  -- it holds by a table that has more
  pub making_later : Extends old new → AreAllLeft ms.first.image w.live new steps → IsInTheMaking w fates new keys steps
  making_later grown left = record {
    found = found_later w fates old new keys grown is.found;
    left = steps_back w v new steps from (machine_by ms.first.image begin links place) left view here;
  }

  -- the world behind a step is known by its key
  pub before_behind : (u : Step) (key : List ℕ)
      → IsKnown new ms.first.image (cleared w.live (after ms.first.image (machine_by ms.first.image begin links place).world u))
      → key ≡ key_of new ms.first.image (cleared w.live (after ms.first.image (machine_by ms.first.image begin links place).world u))
      → AreAllLeft ms.first.image w.live new steps
      → IsBefore w.live new steps (machine_next (machine_by ms.first.image begin links place) u) key
  before_behind u key known key_is left =
      let m = machine_by ms.first.image begin links place in
      next_before v w.live new steps from u m key here (live_at w v fates old keys from m is.found view here) known key_is left
