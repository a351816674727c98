use Rattle.std.proofs.Common.{sym, lit<, Some}
use Rattle.processor.specs.declared.steps.Next.TheVariants.{Ask}
use Rattle.processor.proofs.Begun.{asked, told_fetch, told_next}
use Rattle.processor.proofs.Counting.{counted_new}
use Rattle.processor.proofs.OtherStreams.{kept_new}
use Rattle.processor.proofs.processors.Processor.finish_reply.Goals as goal

pub finish_reply-requires : goal.finish_reply-requires
finish_reply-requires g c =
    let image = c.args.image.now in
    let now = c.args.self.now in
    let old = c.self.inside.streams in
    let q = c.args.request.now in
    let asks = told_next image now c.args.s c.args.step.now (Ask q) c.requires.step c.requires.asks in (
      lit< tt,
      (
        c.self.invariant,
        (
          told_fetch image now old c.args.s c.args.step.now c.self.view_is c.requires.step,
          sym (asked image now old c.args.s q c.self.view_is asks),
        ),
      ),
    )

pub invariant_of-self : goal.invariant_of-self
invariant_of-self g c =
    counted_new c.args.image.now c.args.self.now c.self.inside.streams c.finish_reply.new.self c.args.s
    (Some c.args.reply) c.finish_reply.result c.self.view_is c.requires.slim c.self.invariant c.finish_reply.ensures

pub returns-clause-others : goal.returns-clause-others
returns-clause-others g c =
    kept_new c.args.image.now c.args.self.now c.self.inside.streams c.finish_reply.new.self c.args.s
    (Some c.args.reply) c.finish_reply.result c.self.view_is c.finish_reply.ensures
