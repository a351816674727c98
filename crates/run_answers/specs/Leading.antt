-- When one condition leads to another: no fair run comes to a world where the first one holds, and then, there or later, to
-- none where the other one does.
use Rattle.std.specs.Prelude.{◌≡◌, ◌++◌, IsTrue, true, false, List, Contains, Option, Some, None}
use Rattle.image_file.specs.ImageValue.{ImageValue}
use Rattle.processor.specs.World.{World, steps, run}
use Rattle.processor.specs.declared.steps.Step.{Step}
use Rattle.waiting.specs.Running.{runs_in}
use Rattle.starving_streams.specs.Claims.Holding.{form_holds}
use Rattle.starving_streams.specs.ClaimsTypes.ClaimForm.{ClaimForm}
use Rattle.starving_streams.specs.Rests.{is_due}
use Rattle.starving_streams.specs.Starving.{TakenStep, taken, IsRound, IsFairBySteps, IsFairByWords}
use Rattle.starving_streams.specs.ClaimsTypes.Fairness.{Fairness}
use Rattle.starving_streams.specs.ClaimsTypes.Fairness.TheVariants as fairness
use Rattle.starving_streams.specs.ClaimsTypes.LeadsTo.{LeadsTo}
use Rattle.starving_streams.specs.ClaimsTypes.Rest.{Rest}

-- The condition holds in no world in which a step of the schedule is taken, nor in the one that it leads to.
pub record Avoids (image : ImageValue) (w : World) (ts : List Step) (c : ClaimForm) : Type 0 where
  pub before : (x : TakenStep) → Contains (taken image w ts) x → form_holds x.world c ≡ false
  pub after : form_holds (steps image w ts) c ≡ false

-- each step of the schedule is of a stream that runs
abbrev pub AreOfRunning : ImageValue → World → List Step → Type 0
AreOfRunning image w ts = (x : TakenStep) → Contains (taken image w ts) x → IsTrue (runs_in x.world x.step)

-- no stream's steps are due: each that runs may rest
abbrev pub NothingIsDue : List Rest → World → Type 0
NothingIsDue rests w = (who : Step) → ¬ (IsTrue (is_due rests w who))

-- the round is fair, by words or by steps
abbrev pub IsFair : ImageValue → List Rest → Fairness → World → List Step → Type 0
IsFair image rests fairness.ByWords w round = IsFairByWords image rests w round
IsFair image rests fairness.BySteps w round = IsFairBySteps image rests w round

-- A run goes on so from a world that the condition never comes to hold: no stream's steps are due, or a fair round that avoids
-- it can be taken again and again.
abbrev pub NeverHolds : ImageValue → List Rest → Fairness → World → ClaimForm → Option (List Step) → Type 0
NeverHolds image rests f w c None = NothingIsDue rests w
NeverHolds image rests f w c (Some round) = IsRound image w round × IsFair image rests f w round × Avoids image w round c

-- A run evades what a condition is to lead to: after a schedule that condition holds, and the steps from there on, and what
-- follows them, avoid the other one.
pub record Evades (image : ImageValue) (rests : List Rest) (f : Fairness) (asked : LeadsTo) (stem way : List Step)
    (round : Option (List Step)) : Type 0 where
  pub holds : form_holds (run image stem) asked.from ≡ true
  pub of_running : AreOfRunning image (run image stem) way
  pub avoids : Avoids image (run image stem) way asked.to
  pub never : NeverHolds image rests f (steps image (run image stem) way) asked.to round

-- some run does whose schedule goes on from a beginning
abbrev pub CanEvade : ImageValue → List Step → List Rest → Fairness → LeadsTo → Type 0
CanEvade image begin rests f asked =
    (stem : List Step) × (way : List Step) × (round : Option (List Step))
    × Evades image rests f asked (begin ++ stem) way round

-- the condition leads to the other one
abbrev pub Leads : ImageValue → List Step → List Rest → Fairness → LeadsTo → Type 0
Leads image begin rests f asked = ¬ (CanEvade image begin rests f asked)
