-- What is known of a space of whose search it is asked who can wait forever.
use Rattle.std.specs.Prelude.{IsTrue, ◌==◌, ◌&&◌, None}
use Rattle.std.proofs.Common.{◌≡◌, ℕ, Bool, true, false, List, [], ◌∷◌, length, refl, subst, arith}
use Rattle.std.specs.Prelude.{Contains}
use Rattle.std.proofs.lemmas.Bool.{eqb-true}
use Rattle.std.proofs.lemmas.List.{nil_from_length}
use Rattle.image_file.specs.ImageValue.{ImageValue}
use Rattle.processor.specs.World.{run}
use Rattle.processor.specs.declared.steps.Step.{Step}
use Rattle.run_answers.specs.StarvingStreams.ScheduleSpace.Spaces.{SpaceValue}
use Rattle.run_answers.specs.StarvingStreams.Starving.{Starves, CanWaitForEver, NobodyWaits}
use Rattle.run_answers.specs.StarvingStreams.Reports.{HasAllStates, IsShown}
use Rattle.run_answers.specs.StarvingStreamsTypes.Starving.{Starving}
use Rattle.run_answers.specs.ConditionsTypes.Rest.{Rest}
use Rattle.endless_waits.specs.Waits.{HasExtent, why_not, is_nobody, shown_in, TellsWhoWaits}
use Rattle.endless_waits.specs.declared.extents.SearchExtent.{SearchExtent}
use Rattle.endless_waits.specs.declared.extents.SearchExtent.TheVariants as extent
use Rattle.endless_waits.specs.declared.waits.EndlessWaits.{EndlessWaits}
use Rattle.endless_waits.specs.declared.waits.EndlessWaits.TheVariants as waits

-- if it is asked, the space has all states
pub has_all_states : (x : SearchExtent) (states : ℕ) (v : SpaceValue) → why_not x states ≡ None → HasExtent x v
    → HasAllStates v
has_all_states extent.AllStates states v none has = has
has_all_states extent.Bounded states v none has = cc
has_all_states extent.Reduced states v none has = cc

both : (a b : Bool) → (a && b) ≡ true → (a ≡ true) × (b ≡ true)
both true b is = (refl, is)
both false b is = cc

-- if it is said that nobody can, nobody can
pub nobody_waits : (image : ImageValue) (begin : List Step) (rests : List Rest) (w : EndlessWaits) → TellsWhoWaits image begin rests w
    → IsTrue (is_nobody w) → NobodyWaits image begin rests
nobody_waits image begin rests (waits.Answered r) tells is =
    let none = both (length r.starving.items == 0) (length r.undecided.items == 0) is in
    tells.nobody (nil_from_length r.starving.items (eqb-true _ _ none.0))
    (nil_from_length r.undecided.items (eqb-true _ _ none.1))
nobody_waits image begin rests (waits.Unanswered u) tells is = cc

head_in : (x : Starving) (xs : List Starving) → Contains (x ∷ xs) x
head_in x xs = (0, omega arith, refl)

-- a stream that is shown can wait forever
can_wait : (image : ImageValue) (begin : List Step) (rests : List Rest) (x : Starving) → IsShown image begin rests x
    → CanWaitForEver image begin rests x.stream
can_wait image begin rests x is = (
  is.begins.0,
  x.round.items,
  subst (λ (ts : List Step). Starves image rests (run image ts) x.stream x.round.items) is.begins.1 is.starves,
)

none_shown : (image : ImageValue) (begin : List Step) (rests : List Rest) (xs : List Starving)
    → ((x : Starving) → Contains xs x → IsShown image begin rests x) → NobodyWaits image begin rests → xs ≡ []
none_shown image begin rests [] shown nobody = refl
none_shown image begin rests (x ∷ xs) shown nobody =
    absurd (nobody x.stream (can_wait image begin rests x (shown x (head_in x xs))))

-- if nobody can, none is shown
pub shows_none : (image : ImageValue) (begin : List Step) (rests : List Rest) (w : EndlessWaits) → TellsWhoWaits image begin rests w
    → NobodyWaits image begin rests → shown_in w ≡ []
shows_none image begin rests (waits.Answered r) tells nobody = none_shown image begin rests r.starving.items tells.shown nobody
shows_none image begin rests (waits.Unanswered u) tells nobody = refl
