use Rattle.std.proofs.Common.{sym, ◌∙◌}
use Rattle.dead_registers.proofs.live_registers.LiveRegisters.registers_of.Goals as goal
use Rattle.dead_registers.proofs.Worlds.{seen_none, seen_some}

pub returns-in_err-stream : goal.returns-in_err-stream
returns-in_err-stream c c' =
    c'.from_residual.ensures
    ∙ seen_none c'.args.self.now c.row.S c'.args.machine.now.world c'.args.p c'.args.s (sym c'.in_err-stream.ensures)

pub returns : goal.returns
returns c c' =
    seen_some c'.args.self.now c.row.S c'.args.machine.now.world c'.args.p c'.args.s c'.in_ok-stream.stream.now
    c'.registers.result (sym c'.in_ok-stream.ensures) c'.registers.ensures
