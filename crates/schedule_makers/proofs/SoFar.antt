-- A schedule in the making.
use Rattle.std.proofs.Common.{◌≡◌, ℕ, ◌<◌, ◌≤◌, Bool, true, false, refl, sym, ap, ◌∙◌, subst, arith}
use Rattle.std.proofs.Common.{List, [], ◌∷◌, ◌++◌, length, take, Option, Some, inl, inr}
use Rattle.std.specs.Prelude.{IsTrue, Contains, slice_get, ◌⊎◌, Result, Ok, Err, OnErr}
use Rattle.std.proofs.lemmas.Bool.{cases_lt}
use Rattle.std.proofs.lemmas.List.{length_push, take_all, take-append-le}
use Rattle.std.proofs.lemmas.Option.{same_Some, slice_get_within}
use Rattle.image_file.specs.ImageValue.{ImageValue}
use Rattle.processor.specs.World.{World, after, steps}
use Rattle.processor.specs.declared.steps.Step.{Step}
use Rattle.processor.proofs.Histories.{steps-append}
use Rattle.machine.specs.MachineValue.{MachineValue}
use Rattle.waiting.specs.Running.{runs_in, running_steps}
use Rattle.waiting.specs.Stuck.{SomeRuns, IsStandstill}
use Rattle.waiting.proofs.Lists.{all_running}
use Rattle.schedule_makers.specs.Rules.{Rule}
use Rattle.schedule_makers.specs.Made.{IsTaken, AreTaken, IsEnd, IsMade, HasStepped}
use Rattle.schedule_makers.specs.Advancing.{HasGone}
use Rattle.schedule_makers.specs.declared.advancing.Went.{Went}
use Rattle.schedule_makers.specs.declared.made.MadeEnd.{MadeEnd}
use Rattle.schedule_makers.specs.declared.made.MadeEnd.TheVariants as reason
use Rattle.schedule_makers.proofs.Lists.{get-push, get-before}
use Rattle.schedule_makers.proofs.AllStuck.{listed_runs}

-- Steps so far.

pub steps-push : (image : ImageValue) (w : World) (ts : List Step) (t : Step)
    → steps image w (ts ++ t ∷ []) ≡ after image (steps image w ts) t
steps-push image w ts t = steps-append image w ts (t ∷ [])

taken_at : (rule : Rule) (image : ImageValue) (w : World) (ts : List Step) (t u : Step) (k : ℕ)
    → AreTaken rule image w ts → IsTaken rule image (steps image w ts) ts t
    → slice_get (ts ++ t ∷ []) k ≡ Some u → (k < length ts) ⊎ (length ts ≤ k)
    → IsTaken rule image (steps image w (take k (ts ++ t ∷ []))) (take k (ts ++ t ∷ [])) u
taken_at rule image w ts t u k all one there which =
    let P : List Step → Step → Type 0 = λ before x. IsTaken rule image (steps image w before) before x in
    elim which [
      | inl below ↦
          let old : slice_get ts k ≡ Some u = sym (get-before ts t k below) ∙ there in
          let at : take k (ts ++ t ∷ []) ≡ take k ts = take-append-le k ts (t ∷ []) (omega (arith, below)) in
          subst (λ before. P before u) (sym at) (all k u old)
      | inr past ↦
          let within : k < length (ts ++ t ∷ []) = slice_get_within (ts ++ t ∷ []) k u there in
          let last : k ≡ length ts = omega (arith, length_push ts t) in
          let same : t ≡ u =
          same_Some t u (sym (get-push ts t) ∙ sym (ap (slice_get (ts ++ t ∷ [])) last) ∙ there) in
          let at : take k (ts ++ t ∷ []) ≡ ts =
          take-append-le k ts (t ∷ []) (omega (arith, last)) ∙ take_all k ts (omega (arith, last)) in
          subst (λ before. P before u) (sym at) (subst (λ x. P ts x) same one)
    ]

taken-push : (rule : Rule) (image : ImageValue) (w : World) (ts : List Step) (t : Step) → AreTaken rule image w ts
    → IsTaken rule image (steps image w ts) ts t → AreTaken rule image w (ts ++ t ∷ [])
taken-push rule image w ts t all one k u there =
    taken_at rule image w ts t u k all one there (cases_lt k (length ts))

taken-none : (rule : Rule) (image : ImageValue) (w : World) → AreTaken rule image w []
taken-none rule image w k u there = absurd (let e : ⊥ = cc in e)

-- What holds while a schedule is made.
pub record IsMaking (rule : Rule) (old now : MachineValue) (ts running : List Step) (able : Bool) : Type 0 where
  pub image : now.image ≡ old.image
  pub world : now.world ≡ steps old.image old.world ts
  pub taken : AreTaken rule old.image old.world ts
  pub running_is : running ≡ running_steps now.world
  pub known : IsTrue able → ¬ IsStandstill now.image now.world

pub begun : (rule : Rule) (old : MachineValue) (running : List Step) → running ≡ running_steps old.world
    → IsMaking rule old old [] running false
begun rule old running is = record {
  image = refl;
  world = refl;
  taken = taken-none rule old.image old.world;
  running_is = is;
  known = λ able. absurd (let e : ⊥ = cc in e);
}

-- the step that the rule takes
taken_now : (rule : Rule) (old now : MachineValue) (ts running : List Step) (able : Bool) (t : Step)
    → IsMaking rule old now ts running able → rule ts now.image now.world ≡ Some t → Contains running t
    → (¬ IsStandstill now.image now.world) → IsTaken rule old.image (steps old.image old.world ts) ts t
taken_now rule old now ts running able t making ruled has going =
    let world = steps old.image old.world ts in
    let still : ¬ IsStandstill now.image world = subst (λ w. ¬ IsStandstill now.image w) making.world going in
    record {
      ruled = (λ i. rule ts (sym making.image i) (sym making.world i)) ∙ ruled;
      runs = subst (λ w. IsTrue (runs_in w t)) making.world (listed_runs now.world running t making.running_is has);
      going = subst (λ i. ¬ IsStandstill i world) making.image still;
    }

-- the world behind it
world_on : (rule : Rule) (old now new : MachineValue) (ts running : List Step) (able : Bool) (t : Step) (went : Went)
    → IsMaking rule old now ts running able → HasGone now new t went
    → new.world ≡ steps old.image old.world (ts ++ t ∷ [])
world_on rule old now new ts running able t went making gone =
    gone.world ∙ (λ i. after (making.image i) (making.world i) t) ∙ sym (steps-push old.image old.world ts t)

-- one more step
pub made_more : (rule : Rule) (old now new : MachineValue) (ts running more : List Step) (able : Bool) (t : Step)
    (went : Went) → IsMaking rule old now ts running able → rule ts now.image now.world ≡ Some t → Contains running t
    → HasGone now new t went → more ≡ running_steps new.world
    → IsMaking rule old new (ts ++ t ∷ []) more went.is_able
made_more rule old now new ts running more able t went making ruled has gone is = record {
  image = gone.image ∙ making.image;
  world = world_on rule old now new ts running able t went making gone;
  taken = taken-push rule old.image old.world ts t making.taken
      (taken_now rule old now ts running able t making ruled has gone.going);
  running_is = is;
  known = gone.able;
}

-- the list of the streams that run, where the same ones run
pub same_listed : (rule : Rule) (old now new : MachineValue) (ts running : List Step) (able : Bool) (t : Step)
    (went : Went) → IsMaking rule old now ts running able → HasGone now new t went → went.same_run ≡ true
    → running ≡ running_steps new.world
same_listed rule old now new ts running able t went making gone same =
    making.running_is ∙ sym (gone.same_run same)

-- Memory was refused.

pub stepped_so_far : (rule : Rule) (old now : MachineValue) (ts running : List Step) (able : Bool)
    → IsMaking rule old now ts running able → HasStepped old now
stepped_so_far rule old now ts running able making =
    record { image = making.image; ts = ts; world = making.world }

pub stepped_once_more : (rule : Rule) (old now new : MachineValue) (ts running : List Step) (able : Bool) (t : Step)
    (went : Went) → IsMaking rule old now ts running able → HasGone now new t went → HasStepped old new
stepped_once_more rule old now new ts running able t went making gone = record {
  image = gone.image ∙ making.image;
  ts = ts ++ t ∷ [];
  world = world_on rule old now new ts running able t went making gone;
}

-- The end.

pub none_run : (w : World) (running : List Step) → running ≡ running_steps w → length running ≡ 0 → ¬ SomeRuns w
none_run w running is empty some =
    let there : Contains (running_steps w) some.0 = (all_running w some.0).1 some.1 in
    let has : Contains running some.0 = subst (λ ts. Contains ts some.0) (sym is) there in
    omega (arith, has.1)

pub some_run : (w : World) (running : List Step) → running ≡ running_steps w → 0 < length running → SomeRuns w
some_run w [] is some = absurd (omega arith)
some_run w (t ∷ ts) is some = (t, listed_runs w (t ∷ ts) t is (0, some, refl))

pub ended : (rule : Rule) (old now : MachineValue) (most : ℕ) (ts running : List Step) (able : Bool) (end : MadeEnd)
    → IsMaking rule old now ts running able → length ts ≤ most → IsEnd now.image now.world end
    → (end ≡ reason.OutOfSteps → length ts ≡ most) → IsMade rule old now most ts end
ended rule old now most ts running able end making within is all = record {
  image = making.image;
  world = making.world;
  taken = making.taken;
  within = within;
  ends = is;
  all = all;
}

-- What the code has found.

pub ruled_now : (rule begun : Rule) (m : MachineValue) (made ts : List Step) (r : Option Step) → rule ≡ begun
    → made ≡ ts → r ≡ rule made m.image m.world → begun ts m.image m.world ≡ r
ruled_now rule begun m made ts r same made_is is = sym (is ∙ (λ i. (same i) (made_is i) m.image m.world))

pub on_err : {T E P : Type 0} (r : Result T E) → P → OnErr r P
on_err (Ok x) p = tt
on_err (Err e) p = p
