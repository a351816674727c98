-- Who can wait for ever: rounds of a program, which of them are fair by words, and streams that starve in one.
use Rattle.std.specs.Prelude.{◌≡◌, ◌<◌, ◌++◌, IsTrue, Bool, true, false, List, [], ◌∷◌, length, Contains}
use Rattle.image_file.specs.ImageValue.{ImageValue}
use Rattle.stream_core.specs.declared.steps.Outcome.{Outcome}
use Rattle.stream_core.specs.declared.steps.Outcome.TheVariants as outcome
use Rattle.processor.specs.World.{World, outcome_of, after, steps, run}
use Rattle.processor.specs.declared.steps.Step.{Step}
use Rattle.waiting.specs.Running.{runs_in}
use Rattle.claims.specs.declared.run_conditions.Rest.{Rest}
use Rattle.starving_streams.specs.Rests.{is_due}

-- Steps of a schedule.

-- whether a step that comes out so completes: it is not Blocked
abbrev pub is_completed : Outcome → Bool
is_completed outcome.Skipped = true
is_completed outcome.Done = true
is_completed outcome.Blocked = false
is_completed (outcome.Trapped k) = true
is_completed (outcome.Stopped k) = true

-- whether the stream's next step in a world would complete
abbrev pub can_complete : ImageValue → World → Step → Bool
can_complete image w t = is_completed (outcome_of image w t)

-- a step of a schedule, and the world in which it is taken
pub record TakenStep : Type 0 where
  pub world : World
  pub step : Step

-- the steps of a schedule from a world on, each with the world in which it is taken
abbrev pub taken : ImageValue → World → List Step → List TakenStep
taken image w [] = []
taken image w (t ∷ ts) = record { world = w; step = t } ∷ taken image (after image w t) ts

-- Rounds.

-- A round: a schedule of at least one step, all of streams that run, that leads from a world back to it.
pub record IsRound (image : ImageValue) (w : World) (round : List Step) : Type 0 where
  pub some : 0 < length round
  pub back : steps image w round ≡ w
  pub run : (x : TakenStep) → Contains (taken image w round) x → IsTrue (runs_in x.world x.step)

-- steps of the stream are due in each world of the round: it runs there, and may not rest
abbrev pub IsDueThroughout : ImageValue → List Rest → World → List Step → Step → Type 0
IsDueThroughout image rests w round who =
    (x : TakenStep) → Contains (taken image w round) x → IsTrue (is_due rests x.world who)

-- it has a step in the round
abbrev pub Steps : ImageValue → World → List Step → Step → Type 0
Steps image w round who = (x : TakenStep) × Contains (taken image w round) x × (x.step ≡ who)

-- it has one that completes
abbrev pub Completes : ImageValue → World → List Step → Step → Type 0
Completes image w round who =
    (x : TakenStep) × Contains (taken image w round) x × (x.step ≡ who) × IsTrue (can_complete image x.world who)

-- each stream of which steps are due throughout the round has one in it
abbrev pub IsFairBySteps : ImageValue → List Rest → World → List Step → Type 0
IsFairBySteps image rests w round = (who : Step) → IsDueThroughout image rests w round who → Steps image w round who

-- So it is, and each stream that could complete in some world of the round, where it may not rest, completes in it.
pub record IsFairByWords (image : ImageValue) (rests : List Rest) (w : World) (round : List Step) : Type 0 where
  pub steps : IsFairBySteps image rests w round
  pub words : (x : TakenStep) (who : Step) → Contains (taken image w round) x → IsTrue (is_due rests x.world who)
      → IsTrue (can_complete image x.world who) → Completes image w round who

-- each step of the stream in the round is Blocked
abbrev pub IsBlockedIn : ImageValue → World → List Step → Step → Type 0
IsBlockedIn image w round who =
    (x : TakenStep) → Contains (taken image w round) x → x.step ≡ who → can_complete image x.world who ≡ false

-- The stream starves in the round: that is fair by words, steps of the stream are due throughout, and it has Blocked steps
-- alone. By fairness it has one.
pub record Starves (image : ImageValue) (rests : List Rest) (w : World) (who : Step) (round : List Step) : Type 0 where
  pub around : IsRound image w round
  pub fair : IsFairByWords image rests w round
  pub due : IsDueThroughout image rests w round who
  pub blocked : IsBlockedIn image w round who

-- A stream can wait for ever: some schedule that goes on from a beginning leads to a world with a round in which it
-- starves.
abbrev pub CanWaitForEver : ImageValue → List Step → List Rest → Step → Type 0
CanWaitForEver image begin rests who =
    (stem : List Step) × (round : List Step) × Starves image rests (run image (begin ++ stem)) who round

-- none can
abbrev pub NobodyWaits : ImageValue → List Step → List Rest → Type 0
NobodyWaits image begin rests = (who : Step) → ¬ (CanWaitForEver image begin rests who)
