-- How often a stream is overtaken while it waits.
use Rattle.std.specs.Prelude.{◌≡◌, ◌++◌, ◌+◌, ◌<◌, ◌&&◌, not, ℕ, Bool, true, if◌then◌else◌, List, [], ◌∷◌, Contains}
use Rattle.image_file.specs.ImageValue.{ImageValue}
use Rattle.processor.specs.World.{World, after, steps, run}
use Rattle.processor.specs.declared.steps.Step.{Step}
use Rattle.starving_streams.specs.Claims.Holding.{form_holds}
use Rattle.starving_streams.specs.ClaimsTypes.ClaimForm.{ClaimForm}
use Rattle.starving_streams.specs.Starving.{TakenStep, taken}
use Rattle.starving_streams.specs.ClaimsTypes.Overtaking.{Overtaking}
use Rattle.run_answers.specs.Leading.{AreOfRunning}

-- whether the condition comes to hold from one world to the next
abbrev pub comes : ClaimForm → World → World → Bool
comes c w next = not (form_holds w c) && form_holds next c

-- how often it does by the steps of a schedule from a world on
abbrev pub arrivals : ImageValue → World → List Step → ClaimForm → ℕ
arrivals image w [] c = 0
arrivals image w (t ∷ ts) c =
    (if comes c w (after image w t) then 1 else 0) + arrivals image (after image w t) ts c

-- The condition holds in each world in which a step of the schedule is taken, and in the one that it leads to.
pub record Stays (image : ImageValue) (w : World) (ts : List Step) (c : ClaimForm) : Type 0 where
  pub before : (x : TakenStep) → Contains (taken image w ts) x → form_holds x.world c ≡ true
  pub after : form_holds (steps image w ts) c ≡ true

-- The stream is overtaken too often: after a schedule it waits, takes a step, and waits on, and by the steps that follow,
-- throughout which it waits, the other condition comes to hold more often than it may.
pub record IsOvertaken (image : ImageValue) (asked : Overtaking) (stem more : List Step) : Type 0 where
  pub of_running : AreOfRunning image (run image stem) (asked.who ∷ more)
  pub waits : Stays image (run image stem) (asked.who ∷ more) asked.waits
  pub often : asked.most < arrivals image (after image (run image stem) asked.who) more asked.inside

-- some schedule that goes on from a beginning shows it
abbrev pub CanBeOvertaken : ImageValue → List Step → Overtaking → Type 0
CanBeOvertaken image begin asked = (stem : List Step) × (more : List Step) × IsOvertaken image asked (begin ++ stem) more

-- it is overtaken at most so often
abbrev pub IsBounded : ImageValue → List Step → Overtaking → Type 0
IsBounded image begin asked = ¬ (CanBeOvertaken image begin asked)
