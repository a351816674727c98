-- Steps that can be taken before all others commute with them.
use Rattle.std.proofs.Common.{◌≡◌, ◌≢◌, inl, inr, true}
use Rattle.image_file.specs.ImageValue.{ImageValue}
use Rattle.processor.specs.World.{World, after}
use Rattle.processor.specs.declared.steps.Step.{Step}
use Rattle.waiting.specs.Running.{runs_in}
use Rattle.waiting.specs.Stuck.{IsStuck}
use Rattle.local_steps.specs.FreeSteps.{IsFreeStep}
use Rattle.local_steps.proofs.Orders as local
use Rattle.local_steps.proofs.Ending.{commutes_ending, stays_ending_step, runs_ending, not_stuck_ending}

pub commutes : (image : ImageValue) (w : World) (t u : Step) → IsFreeStep image w t → u ≢ t
    → after image (after image w t) u ≡ after image (after image w u) t
commutes image w t u (inl l) apart = local.commutes image w t u l apart
commutes image w t u (inr l) apart = commutes_ending image w t u l apart

pub stays : (image : ImageValue) (w : World) (t u : Step) → IsFreeStep image w t → u ≢ t
    → IsFreeStep image (after image w u) t
stays image w t u (inl l) apart = inl (local.stays image w t u l apart)
stays image w t u (inr l) apart = inr (stays_ending_step image w t u l apart)

pub not_stuck : (image : ImageValue) (w : World) (t : Step) → IsFreeStep image w t → ¬ (IsStuck image w t)
not_stuck image w t (inl l) = local.not_stuck image w t l
not_stuck image w t (inr l) = not_stuck_ending image w t l

pub runs : (image : ImageValue) (w : World) (t : Step) → IsFreeStep image w t → runs_in w t ≡ true
runs image w t (inl l) = local.runs image w t l
runs image w t (inr l) = runs_ending image w t l
