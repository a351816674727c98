-- How it goes on from a world.
use Rattle.std.specs.Prelude.{Bool, true, false}
use Rattle.image_file.specs.ImageValue.{ImageValue}
use Rattle.processor.specs.World.{World}
use Rattle.waiting.specs.Stuck.{SomeRuns, IsStandstill}
use Rattle.schedule_space.specs.declared.fates.Fate.{Fate}
use Rattle.schedule_space.specs.declared.fates.Fate.TheVariants as fate

-- no stream runs
abbrev pub IsFinished : World → Type 0
IsFinished w = ¬ (SomeRuns w)

-- the fate is that of the world: finished where no stream runs, a deadlock where it is a standstill, and else it goes
-- on
abbrev pub IsFate : ImageValue → World → Fate → Type 0
IsFate image w fate.Finished = IsFinished w
IsFate image w fate.Deadlock = IsStandstill image w
IsFate image w fate.GoesOn = SomeRuns w × (¬ (IsStandstill image w))

-- whether nothing goes on from a world of this fate
abbrev pub is_end : Fate → Bool
is_end fate.Finished = true
is_end fate.Deadlock = true
is_end fate.GoesOn = false
