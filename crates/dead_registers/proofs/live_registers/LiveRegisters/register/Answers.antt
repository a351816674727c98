use Rattle.std.proofs.Common.{◌≡◌, ◌⊎◌, inl, inr, true, sym, ◌∙◌, arith}
use Rattle.std.proofs.lemmas.Grind.{common_steps}
use Rattle.std.proofs.lemmas.Option.{unwrap_or-slice_get}
use Rattle.stream_core.specs.Registers.{register_at}
use Rattle.processor.specs.Processors.{is_idle}
use Rattle.dead_registers.specs.Clearing.{matters}
use Rattle.dead_registers.proofs.live_registers.LiveRegisters.register.Goals as goal
use Rattle.dead_registers.proofs.live_registers.LiveRegisters.register.Goals.{else-not-is_idle-via-then-not-is_idle+else-not-matters, else-not-is_idle-via-else-not-is_idle}
use Rattle.dead_registers.proofs.Registers.{is_zero, idle_or_matters}

pub returns-then-not-matters : goal.returns-then-not-matters
returns-then-not-matters c =
    sym (is_zero c.args.self.now c.args.stream.now c.args.register (sym c.is_idle.ensures ∙ c.if-not-is_idle.true)
    (sym c.matters.ensures ∙ c.if-not-matters.true))

pub returns : goal.returns
returns c =
    let value : c.unwrap_or.result ≡ register_at c.args.stream.now.registers c.args.register =
    grind (arith, common_steps, unwrap_or-slice_get) in
    let why : (is_idle c.args.stream.now ≡ true) ⊎ (matters c.args.self.now c.args.stream.now c.args.register ≡ true) =
    elim c.else-not-is_idle.branch [
      | else-not-is_idle-via-then-not-is_idle+else-not-matters w ↦
          inr (sym w.matters.ensures ∙ w.if-not-matters.false)
      | else-not-is_idle-via-else-not-is_idle w ↦ inl (sym c.is_idle.ensures ∙ w.if-not-is_idle.false)
    ] in
    value ∙ sym (idle_or_matters c.args.self.now c.args.stream.now c.args.register why)
