use Rattle.std.proofs.Common.{◌∙◌, ap, sym, refl, lit<, is_some}
use Rattle.stream_core.specs.declared.steps.Fetch.TheVariants.{Rest, Trap, Instruction}
use Rattle.processor.specs.Row.{memory_reply}
use Rattle.processor.proofs.Begun.{rests, awake, free, row_over_memory_begun, is_replied, asked_there}
use Rattle.processor.proofs.Counting.{some_current}
use Rattle.processor.proofs.counted_streams.CountedStreams.step_over_in_full.Goals as goal

pub trap-requires : goal.trap-requires
trap-requires g c =
    (lit< tt, (awake c.args.image.now c.args.self.now c.args.place (ap rests (sym c.in-Trap.ensures))).0)

pub at-requires : goal.at-requires
at-requires g c =
    (lit< tt, (awake c.args.image.now c.args.self.now c.args.place (ap rests (sym c.in-Instruction.ensures))).0)

pub complete-requires : goal.complete-requires
complete-requires g c =
    let image = c.args.image.now in
    let proc = c.args.self.now in
    let n = c.args.place in
    let found = sym c.in-Instruction.ensures in
    let asks = asked_there proc n c.in-Instruction.insn c.at.result.now _ c.at.ensures c.request-request.ensures in (
      lit< tt,
      (
        (awake image proc n (ap rests found)).0,
        (
          is_replied c.args.memory.now _ _ _ c.reply_of-reply.ensures ∙ ap is_some asks,
          (
            some_current image proc n c.requires.counts (ap rests found),
            (c.requires.counts.within_sres, free image proc n c.in-Instruction.insn found),
          ),
        ),
      ),
    )

pub returns-in-Rest : goal.returns-in-Rest
returns-in-Rest g c =
    row_over_memory_begun c.args.image.now c.args.self.now c.args.place c.args.memory.now _ Rest _
    (sym c.in-Rest.ensures) refl

pub returns-in-Trap : goal.returns-in-Trap
returns-in-Trap g c =
    ap (λ x. (x, c.args.memory.now)) c.trap.ensures
    ∙ row_over_memory_begun c.args.image.now c.args.self.now c.args.place c.args.memory.now _ (Trap c.in-Trap.kind) _
    (sym c.in-Trap.ensures) refl

pub returns-in-Instruction : goal.returns-in-Instruction
returns-in-Instruction g c =
    let asks =
    asked_there c.args.self.now c.args.place c.in-Instruction.insn c.at.result.now _ c.at.ensures
    c.request-request.ensures in
    ap (λ x. (x, c.reply_of-reply.new.memory)) c.complete.ensures
    ∙ row_over_memory_begun c.args.image.now c.args.self.now c.args.place c.args.memory.now _ (Instruction c.in-Instruction.insn) _
    (sym c.in-Instruction.ensures) (c.reply_of-reply.ensures ∙ ap (memory_reply c.args.memory.now) asks)
