use Rattle.std.proofs.Common.{sym, ap, ◌∙◌, subst, arith, get_or, List}
use Rattle.std.specs.List.{Contains}
use Rattle.std.proofs.lemmas.List.Elements.{Contains-get_or}
use Rattle.processor.specs.declared.steps.Step.{Step}
use Rattle.schedule_space.specs.Quiet.{IsUnseen}
use Rattle.schedule_space.proofs.Looking.{pushed}
use Rattle.schedule_space.proofs.unseen.unseen_steps.Goals.{then-is_unseen+in_ok-push, else-is_unseen}
use Rattle.schedule_space.proofs.unseen.unseen_steps.Goals as goal

pub loop-step-preserved : goal.loop-step-preserved
loop-step-preserved g c =
    let ts = c.args.steps.now in
    let n = c.loop-step.step-index in
    let none : Step = record { p = 0; s = 0 } in
    let unseen : Step → Type 0 =
    IsUnseen c.args.observation.places.now c.args.observation.words.now c.args.machine.now.image c.args.machine.now.world in
    elim c.if-is_unseen.branch [
      | then-is_unseen+in_ok-push w ↦ record {
        some =
            pushed (Contains ts) c.loop-step.unseen.items c.if-is_unseen.unseen.items (get_or ts n none)
            (ap (λ v. v.items) w.unseen-is ∙ w.in_ok-push.ensures.items) c.loop-step.invariant.some
            (Contains-get_or ts n none (omega arith));
        unseen =
            pushed unseen c.loop-step.unseen.items c.if-is_unseen.unseen.items (get_or ts n none)
            (ap (λ v. v.items) w.unseen-is ∙ w.in_ok-push.ensures.items) c.loop-step.invariant.unseen
            (c.is_unseen.ensures w.if-is_unseen.true);
      }
      | else-is_unseen w ↦ record {
        some =
            subst (λ (us : List Step). (t : Step) → Contains us t → Contains ts t) (sym (ap (λ v. v.items) w.unseen-is))
            c.loop-step.invariant.some;
        unseen =
            subst (λ (us : List Step). (t : Step) → Contains us t → unseen t) (sym (ap (λ v. v.items) w.unseen-is))
            c.loop-step.invariant.unseen;
      }
    ]
