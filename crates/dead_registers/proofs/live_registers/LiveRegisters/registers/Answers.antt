use Rattle.std.proofs.Common.{◌≡◌, ◌<◌, length, arith}
use Rattle.stream_core.specs.Registers.{register_at}
use Rattle.dead_registers.specs.Clearing.{kept_registers}
use Rattle.dead_registers.proofs.live_registers.LiveRegisters.registers.Goals as goal
use Rattle.dead_registers.proofs.Registers.{filled, all_there, one_more}

pub loop-register-preserved : goal.loop-register-preserved
loop-register-preserved c =
    one_more (register_at (kept_registers c.args.self.now c.args.stream.now)) c.loop-register.registers
    c.loop-register.register c.from.result c.register.result (omega arith) c.from.ensures c.register.ensures
    c.loop-register.invariant.0 c.loop-register.invariant.1

pub returns : goal.returns
returns c =
    let all : length c.args.stream.now.registers ≡ 32 =
    all_there c.args.stream.now.registers c.reg.result c.reg-2.result c.reg.ensures.is (c.reg.ensures.there.1 (omega arith))
    c.reg-2.ensures.is (λ some. let past : 32 < 32 = c.reg-2.ensures.there.0 some in omega arith) in
    let room = c.loop-register.invariant.0 in
    filled c.loop-register.registers c.args.self.now c.args.stream.now (omega arith)
    (λ k below. c.loop-register.invariant.1 k (omega arith))
