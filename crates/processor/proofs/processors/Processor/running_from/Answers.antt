use Rattle.std.proofs.Common.{◌∙◌, ap, sym, arith, take}
use Rattle.processor.specs.Processors.{ProcessorValue, count_current}
use Rattle.processor.proofs.Current.{none-runs-above}
use Rattle.processor.proofs.processors.Processor.running_from.Goals as goal

pub returns-then-current_among-from : goal.returns-then-current_among-from
returns-then-current_among-from g c =
    let scur = ap (λ i. i.streams.scur) c.self-inside.view_is in
    let counted = ap (λ (p : ProcessorValue). count_current p.streams) c.self.view_is in
    let among = ap (λ i. count_current (take c.args.from i.streams.streams)) c.self-inside.view_is
    ∙ ap (λ (p : ProcessorValue). count_current (take c.args.from p.streams)) c.self.view_is in
    sym (none-runs-above c.args.self.now.streams c.args.from (omega (
      arith,
      c.self.invariant.counts,
      scur,
      counted,
      among,
      c.current_among.ensures,
      c.from-2.ensures,
      c.if-current_among-from.true,
    )))
