-- Each turn adds the step once more.
use Rattle.std.proofs.Common.{◌∙◌, ap, arith, ◌++◌, ◌∷◌, [], List, append_assoc, replicate}
use Rattle.std.proofs.lemmas.List.{replicate_more}
use Rattle.processor.specs.declared.steps.Step.{Step}
use Rattle.shared_history.proofs.weaving.push_run.Goals as goal

pub loop-preserved : goal.loop-preserved
loop-preserved c =
    let h = c.loop.invariant in
    let old = c.args.schedule.now.items in
    let step = c.args.step in (
      c.push_reserved.ensures.items
          ∙ ap (λ (xs : List Step). xs ++ step ∷ []) h.0
          ∙ append_assoc old (replicate c.loop.counter step) (step ∷ [])
          ∙ ap (λ (xs : List Step). old ++ xs) (replicate_more c.loop.counter step),
      omega (arith, h.1, c.push_reserved.ensures.len),
      c.push_reserved.ensures.capacity ∙ h.2,
      h.3,
    )
