use Rattle.std.proofs.Common.{◌∙◌, ap, sym, lit<, is_some}
use Rattle.stream_core.specs.declared.steps.Fetch.TheVariants.{Rest, Trap, Instruction}
use Rattle.stream_core.specs.declared.steps.Outcome.TheVariants.{Done}
use Rattle.processor.specs.FetchForms.{fetch_in}
use Rattle.processor.proofs.Begun.{rests, awake, free, row_begun, request_begun}
use Rattle.processor.proofs.Counting.{some_current}
use Rattle.processor.proofs.ShortRow.{short_row, reference_not_local}
use Rattle.processor.proofs.counted_streams.CountedStreams.finish_local.Goals as goal

pub execute_short-requires : goal.execute_short-requires
execute_short-requires g c =
    let found = sym c.requires.fetch ∙ sym c.fetch.view_is ∙ ap fetch_in c.in-Short.is in
    (lit< tt, (awake c.args.image.now c.args.self.now c.args.place (ap rests found)).0)

pub trap-requires : goal.trap-requires
trap-requires g c =
    let found = sym c.requires.fetch ∙ sym c.fetch.view_is ∙ ap fetch_in c.in-Trap.is in
    (lit< tt, (awake c.args.image.now c.args.self.now c.args.place (ap rests found)).0)

pub unreachable-requires : goal.unreachable-requires
unreachable-requires g c =
    let found = sym c.requires.fetch ∙ sym c.fetch.view_is ∙ ap fetch_in c.in-Reference.is in
    reference_not_local c.args.image.now c.args.self.now c.args.place c.in-Reference.field-0 found c.requires.local

pub complete-requires : goal.complete-requires
complete-requires g c =
    let image = c.args.image.now in
    let proc = c.args.self.now in
    let n = c.args.place in
    let found = sym c.requires.fetch ∙ sym c.fetch.view_is ∙ ap fetch_in c.in-Instruction.is in (
      lit< tt,
      (
        (awake image proc n (ap rests found)).0,
        (
          sym (ap is_some c.requires.local) ∙ ap is_some (request_begun image proc n (Instruction c.in-Instruction.insn) found),
          (
            some_current image proc n c.requires.counts (ap rests found),
            (c.requires.counts.within_sres, free image proc n c.in-Instruction.insn found),
          ),
        ),
      ),
    )

pub returns-in-Short : goal.returns-in-Short
returns-in-Short g c =
    let found = sym c.requires.fetch ∙ sym c.fetch.view_is ∙ ap fetch_in c.in-Short.is in
    ap (λ proc. (proc, Done)) c.execute_short.ensures
    ∙ short_row c.args.image.now c.args.self.now c.args.place c.in-Short.short found

pub returns-in-Rest : goal.returns-in-Rest
returns-in-Rest g c =
    let found = sym c.requires.fetch ∙ sym c.fetch.view_is ∙ ap fetch_in c.in-Rest.is in
    row_begun c.args.image.now c.args.self.now c.args.place _ Rest found

pub returns-in-Trap : goal.returns-in-Trap
returns-in-Trap g c =
    let found = sym c.requires.fetch ∙ sym c.fetch.view_is ∙ ap fetch_in c.in-Trap.is in
    c.trap.ensures ∙ row_begun c.args.image.now c.args.self.now c.args.place _ (Trap c.in-Trap.kind) found

pub returns-in-Instruction : goal.returns-in-Instruction
returns-in-Instruction g c =
    let found = sym c.requires.fetch ∙ sym c.fetch.view_is ∙ ap fetch_in c.in-Instruction.is in
    c.complete.ensures ∙ row_begun c.args.image.now c.args.self.now c.args.place _ (Instruction c.in-Instruction.insn) found
