use Rattle.std.proofs.Common.{rules, ap, sym, ◌∙◌}
use Rattle.busy_streams.specs.declared.stream_cycles.OwnCycles.{OwnCycles}
use Rattle.busy_streams.specs.OwnCycles.{is_step}
use Rattle.busy_streams.proofs.Told.{cycle_is}
use Rattle.busy_streams.proofs.stream_cycles.has_cycles_of.Goals as goal

pub returns-then-is_step : goal.returns-then-is_step
returns-then-is_step c = λ yes.
    cycle_is c.args.cycles.now c.loop-number.number c.index-cycles-number.result c.args.stream c.is_step.result
    (search rules) c.index-cycles-number.is
    (c.is_step.ensures ∙ ap (λ (q : OwnCycles). is_step c.args.stream q.stream) (sym c.index-cycles-number.is))
    c.if-is_step.true
