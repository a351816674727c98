-- The views of a schedule's steps, one after the other.
use Rattle.std.proofs.Common.{◌≡◌, ℕ, suc, ◌+◌, ◌<◌, ◌≤◌, refl, sym, ap, ◌∙◌, subst, add-one}
use Rattle.std.proofs.Common.{List, [], ◌∷◌, ◌++◌, length, drop, get_or, append_assoc, append-nil}
use Rattle.std.proofs.Math.Seq.{drop-cons}
use Rattle.std.proofs.Math.ListN.{drop_of_length-le}
use Rattle.image_file.specs.ImageValue.{ImageValue}
use Rattle.processor.specs.World.{World, after}
use Rattle.processor.specs.declared.steps.Step.{Step}
use Rattle.machine.specs.MachineValue.{MachineValue}
use Rattle.step_views.specs.StepViews.{IsViewOf}
use Rattle.step_views.specs.declared.step_views.StepView.{StepView}
use Rattle.whole_runs.specs.RunViews.{AreViews}

-- what views of the steps that are left make, with those that are there: views of all steps
abbrev pub Leads : MachineValue → List Step → List StepView → MachineValue → List Step → Type 0
Leads now left views begun ts =
    (rest : List StepView) → AreViews now.image now.world left rest
    → AreViews begun.image begun.world ts (views ++ rest)

-- the rest of a list behind place i, by its next entry
pub behind : (ts : List Step) (t : Step) (i : ℕ) → i < length ts → t ≡ get_or ts i t
    → drop i ts ≡ t ∷ drop (i + 1) ts
behind ts t i below read =
    drop-cons ts i t below
    ∙ ap (λ x. x ∷ drop (suc i) ts) (sym read)
    ∙ ap (λ k. t ∷ drop k ts) (sym (add-one i))

pub leads_step : (begun old new : MachineValue) (t : Step) (ts : List Step) (i : ℕ) (v : StepView)
    (views more : List StepView)
    → i < length ts → t ≡ get_or ts i t → new.world ≡ after old.image old.world t → new.image ≡ old.image
    → IsViewOf old.image old.world t v → more ≡ views ++ v ∷ []
    → Leads old (drop i ts) views begun ts → Leads new (drop (i + 1) ts) more begun ts
leads_step begun old new t ts i v views more below read world image is pushed leads = λ rest are.
    let later : List Step = drop (i + 1) ts in
    let here : AreViews old.image (after old.image old.world t) later rest =
    subst (λ (g : ImageValue). AreViews g (after old.image old.world t) later rest) image
    (subst (λ (w : World). AreViews new.image w later rest) world are) in
    let all : AreViews old.image old.world (drop i ts) (v ∷ rest) =
    subst (λ (us : List Step). AreViews old.image old.world us (v ∷ rest)) (sym (behind ts t i below read))
    (is, here) in
    let same : views ++ v ∷ rest ≡ more ++ rest =
    sym (append_assoc views (v ∷ []) rest) ∙ ap (λ x. x ++ rest) (sym pushed) in
    subst (λ (vs : List StepView). AreViews begun.image begun.world ts vs) same (leads (v ∷ rest) all)

pub leads_end : (begun now : MachineValue) (ts : List Step) (i : ℕ) (views : List StepView) → length ts ≤ i
    → Leads now (drop i ts) views begun ts → AreViews begun.image begun.world ts views
leads_end begun now ts i views past leads =
    let none : AreViews now.image now.world (drop i ts) [] =
    subst (λ (us : List Step). AreViews now.image now.world us []) (sym (drop_of_length-le ts past)) refl in
    subst (λ (vs : List StepView). AreViews begun.image begun.world ts vs) (append-nil views) (leads [] none)
