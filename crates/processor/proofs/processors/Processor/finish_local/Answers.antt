use Rattle.std.proofs.Common.{◌∙◌, ap, lit<, None}
use Rattle.processor.specs.Row.{next_of}
use Rattle.processor.specs.declared.steps.Next.TheVariants.{Local}
use Rattle.processor.proofs.Begun.{local_request, told_fetch, told_next}
use Rattle.processor.proofs.Counting.{counted_new}
use Rattle.processor.proofs.OtherStreams.{kept_new}
use Rattle.processor.proofs.processors.Processor.finish_local.Goals as goal

pub finish_local-requires : goal.finish_local-requires
finish_local-requires g c =
    let image = c.args.image.now in
    let now = c.args.self.now in
    let old = c.self.inside.streams in
    let local = told_next image now c.args.s c.args.step.now Local c.requires.step c.requires.local in (
      lit< tt,
      (
        c.self.invariant,
        (
          told_fetch image now old c.args.s c.args.step.now c.self.view_is c.requires.step,
          local_request image old c.args.s (ap (λ p. next_of image p c.args.s) c.self.view_is ∙ local),
        ),
      ),
    )

pub invariant_of-self : goal.invariant_of-self
invariant_of-self g c =
    counted_new c.args.image.now c.args.self.now c.self.inside.streams c.finish_local.new.self c.args.s None
    c.finish_local.result c.self.view_is c.requires.slim c.self.invariant c.finish_local.ensures

pub returns-clause-others : goal.returns-clause-others
returns-clause-others g c =
    kept_new c.args.image.now c.args.self.now c.self.inside.streams c.finish_local.new.self c.args.s None
    c.finish_local.result c.self.view_is c.finish_local.ensures
