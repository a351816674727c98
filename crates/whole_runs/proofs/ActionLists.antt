-- The actions of a schedule's steps, one after the other.
use Rattle.std.proofs.Common.{◌≡◌, ℕ, ◌+◌, ◌<◌, ◌≤◌, sym, ap, ◌∙◌, List, [], ◌∷◌, ◌++◌, length, drop, get_or}
use Rattle.std.proofs.Common.{append_assoc, append-nil}
use Rattle.std.proofs.Math.ListN.{drop_of_length-le}
use Rattle.processor.specs.World.{after}
use Rattle.processor.specs.declared.steps.Step.{Step}
use Rattle.machine.specs.MachineValue.{MachineValue}
use Rattle.run_findings.specs.declared.actions.Action.{Action}
use Rattle.whole_runs.specs.RunActions.{action_of, actions_of}
use Rattle.whole_runs.proofs.ViewLists.{behind}

actions_first : (old new : MachineValue) (t : Step) (ts : List Step) (a : Action)
    → new.world ≡ after old.image old.world t → new.image ≡ old.image → a ≡ action_of old.image old.world t
    → a ∷ actions_of new.image new.world ts ≡ actions_of old.image old.world (t ∷ ts)
actions_first old new t ts a world image is = λ i. is i ∷ actions_of (image i) (world i) ts

pub actions_step : (old new : MachineValue) (t : Step) (ts : List Step) (i : ℕ) (a : Action)
    (actions more all : List Action)
    → i < length ts → t ≡ get_or ts i t → new.world ≡ after old.image old.world t → new.image ≡ old.image
    → a ≡ action_of old.image old.world t → more ≡ actions ++ a ∷ []
    → actions ++ actions_of old.image old.world (drop i ts) ≡ all
    → more ++ actions_of new.image new.world (drop (i + 1) ts) ≡ all
actions_step old new t ts i a actions more all below read world image is pushed whole =
    let later : List Step = drop (i + 1) ts in
    ap (λ x. x ++ actions_of new.image new.world later) pushed
    ∙ append_assoc actions (a ∷ []) (actions_of new.image new.world later)
    ∙ ap (λ x. actions ++ x) (actions_first old new t later a world image is)
    ∙ ap (λ us. actions ++ actions_of old.image old.world us) (sym (behind ts t i below read))
    ∙ whole

pub actions_end : (now : MachineValue) (ts : List Step) (i : ℕ) (actions all : List Action) → length ts ≤ i
    → actions ++ actions_of now.image now.world (drop i ts) ≡ all → actions ≡ all
actions_end now ts i actions all past whole =
    sym (append-nil actions)
    ∙ ap (λ us. actions ++ actions_of now.image now.world us) (sym (drop_of_length-le ts past))
    ∙ whole
