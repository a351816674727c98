use Rattle.std.proofs.Common.{◌∙◌, ap, sym, None}
use Rattle.stream_core.proofs.Finishing.{local_runs, row_local}
use Rattle.stream_core.specs.declared.steps.Outcome.TheVariants.{Done}
use Rattle.stream_core.proofs.streams.Stream.finish_local.Goals as goal

pub unreachable-requires : goal.unreachable-requires
unreachable-requires c =
    let found = local_runs c.args.profile c.args.program.now c.args.self.now c.requires.local in
    c.in_default.not-Instruction found.0 (c.fetch.ensures ∙ found.1)

pub returns : goal.returns
returns c limit =
    let found = sym c.fetch.ensures ∙ c.in-Instruction.is in
    ap (λ s. (s, Done)) c.execute.ensures
    ∙ sym (row_local c.args.profile c.args.program.now limit c.args.self.now c.in-Instruction.insn c.args.grant None found
    c.requires.local)
