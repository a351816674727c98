use Rattle.std.proofs.Common.{sym, ◌∙◌, ap}
use Rattle.asm_line.specs.Faults.{both}
use Rattle.asm_line.specs.Labels.{places_of}
use Rattle.asm_line.proofs.Combined.{three_known}
use Rattle.asm_line.proofs.instruction.three_parts.Goals as goal

pub returns : goal.returns
returns c =
    c.triple.ensures _ _ _ c.read_arguments.ensures c.read_arguments-2.ensures c.read_arguments-3.ensures
    ∙ three_known c.args.profile
    (places_of c.args.labels.now) c.args.here c.args.first.now c.args.second.now c.args.third.now
    c.split_head.result.0.now c.split_head-2.result.0.now c.split_head-3.result.0.now
    c.split_head.result.1.now c.split_head-2.result.1.now c.split_head-3.result.1.now
    c.in_ok-o.o c.in_ok-o.p c.in_ok-o.q
    c.operation_of.result c.operation_of-2.result c.operation_of-3.result
    c.split_head.ensures.head c.split_head-2.ensures.head c.split_head-3.ensures.head
    c.split_head.ensures.behind c.split_head-2.ensures.behind c.split_head-3.ensures.behind
    c.operation_of.ensures c.operation_of-2.ensures c.operation_of-3.ensures
    (sym (ap (λ r. both r c.operation_of-3.result) c.both.ensures) ∙ sym c.both-2.ensures ∙ c.in_ok-o.was)
