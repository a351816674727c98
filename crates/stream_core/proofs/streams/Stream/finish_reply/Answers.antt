use Rattle.std.proofs.Common.{◌∙◌, sym}
use Rattle.stream_core.proofs.Finishing.{asked_runs, row_asked}
use Rattle.stream_core.proofs.streams.Stream.finish_reply.Goals as goal

pub unreachable-requires : goal.unreachable-requires
unreachable-requires c =
    let found = asked_runs c.args.profile c.args.program.now c.args.self.now c.requires.asks.0 c.requires.asks.1 in
    c.in_default.not-Instruction found.0 (c.fetch.ensures ∙ found.1)

pub returns : goal.returns
returns c =
    let found = sym c.fetch.ensures ∙ c.in-Instruction.is in
    c.reply.ensures
    ∙ sym (row_asked c.args.profile c.args.program.now c.args.limit c.args.self.now c.in-Instruction.insn c.args.grant
    c.args.reply c.requires.asks.0 found c.requires.asks.1)
