use Rattle.std.proofs.Common.{ap, sym, lit<}
use Rattle.insn_word.specs.ShortInsns.{reference_instruction}
use Rattle.processor.proofs.Begun.{rests, awake, next_needed}
use Rattle.processor.proofs.ShortRow.{short_next}
use Rattle.processor.proofs.counted_streams.CountedStreams.next_step.Goals as goal

pub returns-in-Some : goal.returns-in-Some
returns-in-Some g c =
    let found = c.in-Some.ensures in
    let next = short_next c.args.image.now c.args.self.now c.args.place c.in-Some.short found in
    λ i. record { next = next i; fetch = sym found i }

pub at-requires : goal.at-requires
at-requires g c =
    (lit< tt, (awake c.args.image.now c.args.self.now c.args.place (ap rests c.in-Some-reference_fetch.ensures)).0)

pub returns-in-Some-reference_fetch : goal.returns-in-Some-reference_fetch
returns-in-Some-reference_fetch g c =
    let found = c.in-Some-reference_fetch.ensures in
    let next = next_needed c.args.image.now c.args.self.now c.args.place
    (reference_instruction c.in-Some-reference_fetch.reference) c.at.result.now _ found c.at.ensures
    c.request_reference.ensures in
    λ i. record { next = next i; fetch = sym found i }
