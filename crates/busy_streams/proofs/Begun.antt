-- What is so of every schedule is so of each world of a space, and the other way round where it has all.
use Rattle.std.proofs.Common.{◌≡◌, ℕ, ◌<◌, ◌++◌, List, length, sym, ap, subst, arith}
use Rattle.processor.specs.World.{World, run}
use Rattle.processor.specs.declared.steps.Step.{Step}
use Rattle.schedule_space.specs.Spaces.{SpaceValue, count, world_of, HasEarlierLinks}
use Rattle.schedule_space.proofs.Schedules.{goes_on}
use Rattle.busy_streams.specs.Busy.{IsBusy, IsNeverBusy}
use Rattle.busy_streams.specs.BusySpaces.{HasAllWorlds, HasNoneBusy}

-- a schedule that goes on from the beginning leads to each world
pub begun : (v : SpaceValue) → HasEarlierLinks v → (k : ℕ) → k < count v
    → (ts : List Step) × (run v.image (v.begin ++ ts) ≡ world_of v k)
begun v earlier k below =
    let on = goes_on v.begin v.links (length v.links) k earlier (omega (arith, below)) (omega (arith, below)) in
    (on.0, ap (run v.image) (sym on.1))

pub never : (v : SpaceValue) → HasAllWorlds v → HasNoneBusy v → IsNeverBusy v.image v.begin
never v plain none ts t busy =
    let has = plain.complete ts in
    none has.0 has.1 t (subst (λ (w : World). IsBusy v.image w t) (sym has.2) busy)

pub none_busy : (v : SpaceValue) → HasEarlierLinks v → IsNeverBusy v.image v.begin → HasNoneBusy v
none_busy v earlier never k below t busy =
    let on = begun v earlier k below in
    never on.0 t (subst (λ (w : World). IsBusy v.image w t) (sym on.1) busy)
