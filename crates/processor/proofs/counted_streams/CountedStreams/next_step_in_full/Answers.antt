use Rattle.std.proofs.Common.{ap, sym, lit<, ◌∙◌}
use Rattle.stream_core.specs.declared.steps.Fetch.TheVariants.{Rest, Trap}
use Rattle.processor.proofs.Begun.{rests, awake, next_begun, next_needed}
use Rattle.processor.proofs.counted_streams.CountedStreams.next_step_in_full.Goals as goal

pub at-requires : goal.at-requires
at-requires g c =
    (lit< tt, (awake c.args.image.now c.args.self.now c.args.place (ap rests (sym c.in-Instruction.ensures))).0)

pub returns-in-Rest : goal.returns-in-Rest
returns-in-Rest g c =
    let found = sym c.in-Rest.ensures in
    let next = next_begun c.args.image.now c.args.self.now c.args.place Rest found in
    λ i. record { next = next i; fetch = sym found i }

pub returns-in-Trap : goal.returns-in-Trap
returns-in-Trap g c =
    let found = sym c.in-Trap.ensures in
    let next = next_begun c.args.image.now c.args.self.now c.args.place (Trap c.in-Trap.kind) found in
    λ i. record { next = next i; fetch = sym found i }

pub returns-in-Instruction : goal.returns-in-Instruction
returns-in-Instruction g c =
    let found = sym c.in-Instruction.ensures in
    let next = c.next_asking.ensures
    ∙ next_needed c.args.image.now c.args.self.now c.args.place c.in-Instruction.insn c.at.result.now _ found c.at.ensures
    c.request.ensures in
    λ i. record { next = next i; fetch = sym found i }
