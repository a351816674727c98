use Rattle.std.proofs.Common.{◌∙◌, ap, sym, lit<, is_some, inl, inr}
use Rattle.stream_core.specs.declared.steps.Fetch.TheVariants.{Instruction}
use Rattle.processor.specs.FetchForms.{fetch_in}
use Rattle.processor.proofs.Begun.{rests, awake, free, row_begun, request_begun}
use Rattle.processor.proofs.Counting.{some_current}
use Rattle.processor.proofs.ShortRow.{reference_row, rest_asks_nothing, trap_asks_nothing, short_asks_nothing}
use Rattle.processor.proofs.counted_streams.CountedStreams.finish_reply.Goals as goal

pub complete_reference-requires : goal.complete_reference-requires
complete_reference-requires g c =
    let found = sym c.requires.fetch ∙ sym c.fetch.view_is ∙ ap fetch_in c.in-Reference.is in
    (lit< tt, (awake c.args.image.now c.args.self.now c.args.place (ap rests found)).0)

pub complete-requires : goal.complete-requires
complete-requires g c =
    let image = c.args.image.now in
    let proc = c.args.self.now in
    let n = c.args.place in
    let found = sym c.requires.fetch ∙ sym c.fetch.view_is ∙ ap fetch_in c.in-Instruction.is in (
      lit< tt,
      (
        (awake image proc n (ap rests found)).0,
        (
          sym c.requires.asks ∙ ap is_some (request_begun image proc n (Instruction c.in-Instruction.insn) found),
          (
            some_current image proc n c.requires.counts (ap rests found),
            (c.requires.counts.within_sres, free image proc n c.in-Instruction.insn found),
          ),
        ),
      ),
    )

pub returns-in-Reference : goal.returns-in-Reference
returns-in-Reference g c =
    let found = sym c.requires.fetch ∙ sym c.fetch.view_is ∙ ap fetch_in c.in-Reference.is in
    c.complete_reference.ensures
    ∙ reference_row c.args.image.now c.args.self.now c.args.place c.in-Reference.reference c.args.reply found

pub returns-in-Instruction : goal.returns-in-Instruction
returns-in-Instruction g c =
    let found = sym c.requires.fetch ∙ sym c.fetch.view_is ∙ ap fetch_in c.in-Instruction.is in
    c.complete.ensures ∙ row_begun c.args.image.now c.args.self.now c.args.place _ (Instruction c.in-Instruction.insn) found

pub unreachable-requires : goal.unreachable-requires
unreachable-requires g c =
    let image = c.args.image.now in
    let proc = c.args.self.now in
    let n = c.args.place in
    let begins = sym c.requires.fetch ∙ sym c.fetch.view_is in
    elim c.in-Rest.is [
      | inl e ↦ rest_asks_nothing image proc n (begins ∙ ap fetch_in e) c.requires.asks
      | inr o ↦ elim o [
        | inl t ↦ trap_asks_nothing image proc n t.0 (begins ∙ ap fetch_in t.1) c.requires.asks
        | inr s ↦ short_asks_nothing image proc n s.0 (begins ∙ ap fetch_in s.1) c.requires.asks
      ]
    ]
