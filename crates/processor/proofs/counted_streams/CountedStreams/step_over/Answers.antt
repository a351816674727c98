use Rattle.std.proofs.Common.{◌∙◌, ap, lit<}
use Rattle.insn_word.specs.ShortInsns.{reference_instruction}
use Rattle.stream_core.specs.declared.steps.Outcome.TheVariants.{Done}
use Rattle.processor.proofs.Begun.{rests, awake, asked_there}
use Rattle.processor.proofs.ShortRow.{short_row_over, reference_row_over}
use Rattle.processor.proofs.counted_streams.CountedStreams.step_over.Goals as goal

pub execute_short-requires : goal.execute_short-requires
execute_short-requires g c =
    (lit< tt, (awake c.args.image.now c.args.self.now c.args.place (ap rests c.in-Some.ensures)).0)

pub returns-in-Some : goal.returns-in-Some
returns-in-Some g c =
    ap (λ proc. ((proc, Done), c.args.memory.now)) c.execute_short.ensures
    ∙ short_row_over c.args.image.now c.args.self.now c.args.place c.args.memory.now c.in-Some.short c.in-Some.ensures

pub at-requires : goal.at-requires
at-requires g c =
    (lit< tt, (awake c.args.image.now c.args.self.now c.args.place (ap rests c.in-Some-reference_fetch.ensures)).0)

pub complete_reference-requires : goal.complete_reference-requires
complete_reference-requires g c =
    (lit< tt, (awake c.args.image.now c.args.self.now c.args.place (ap rests c.in-Some-reference_fetch.ensures)).0)

pub returns-in-Some-reference_fetch : goal.returns-in-Some-reference_fetch
returns-in-Some-reference_fetch g c =
    let r = c.in-Some-reference_fetch.reference in
    let asks = asked_there c.args.self.now c.args.place (reference_instruction r) c.at.result.now _ c.at.ensures
    c.request_reference-request.ensures in
    ap (λ x. (x, c.serve-reply.new.self)) c.complete_reference.ensures
    ∙ reference_row_over c.args.image.now c.args.self.now c.args.place c.args.memory.now _ r _ _
    c.in-Some-reference_fetch.ensures asks c.serve-reply.ensures
