use Rattle.std.proofs.Common.{◌∙◌, ap, refl}
use Rattle.stream_core.specs.declared.steps.Outcome.{Outcome}
use Rattle.machine.specs.Processor.World.{World}
use Rattle.step_views.specs.StepViews.{pc_of}
use Rattle.step_views.proofs.Viewing.{view_changes}
use Rattle.step_views.proofs.step_views.take_step.Goals as goal

pub returns-clause-view : goal.returns-clause-view
returns-clause-view g c =
    let seen = c.of-before in
    record {
      step = refl;
      pc = c.pc.ensures ∙ ap pc_of seen.ensures.stream;
      outcome = ap (λ (x : World × Outcome). x.1) c.step-outcome.ensures.world;
      reference = c.reference_of-reference.ensures;
      changes = view_changes c.serving_laws.ensures.others c.args.machine.now.image c.args.machine.now.world
          c.step-outcome.new.self.world c.args.step c.reference_of-reference.result seen.result c.step-outcome.result
          c.in_ok-changes.changes.items c.note_changes.new.changes.items c.shrink_to_fit.new.self.items
          seen.ensures.counted c.reference_of-reference.ensures seen.ensures.stream seen.ensures.free
          seen.ensures.counts seen.ensures.word c.step-outcome.ensures.world c.in_ok-changes.ensures.items
          c.note_changes.ensures c.shrink_to_fit.ensures.items;
    }
