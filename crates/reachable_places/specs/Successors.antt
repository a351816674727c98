-- The successors of an instruction: the places to which it leads. A stream goes on there, or a target register holds such a
-- place from then on, by which the stream, or one that it starts, may go on later.
use Rattle.std.specs.Prelude.{◌≡◌, ℕ, ◌⊎◌, ⊤}
use Rattle.insn_word.specs.declared.operations.WideOp.{WideOp}
use Rattle.insn_word.specs.declared.operations.WideOp.TheVariants as wide
use Rattle.insn_word.specs.declared.operations.ControlOp.{ControlOp}
use Rattle.insn_word.specs.declared.operations.ControlOp.TheVariants as control
use Rattle.insn_word.specs.declared.operations.Condition.{Condition}
use Rattle.insn_word.specs.declared.operations.Condition.TheVariants as condition
use Rattle.insn_word.specs.declared.insn.CPart.{CPart}
use Rattle.insn_word.specs.declared.insn.Insn.{Insn}
use Rattle.insn_word.specs.declared.insn.Insn.TheVariants.{Wide, Normal}
use Rattle.stream_core.specs.Effects.{next_pc, skip_pc}
use Rattle.stream_core.specs.declared.steps.Fetch.{Fetch}
use Rattle.stream_core.specs.declared.steps.Fetch.TheVariants as fetch
use Rattle.reachable_places.specs.declared.successors.Successors.{Successors}
use Rattle.reachable_places.specs.declared.successors.Successors.TheVariants as to

-- the place to which a target register leads that nothing has set
abbrev pub unset_target : ℕ
unset_target = 0

-- place p where the condition holds, else the next one
abbrev pub where_holding : Condition → ℕ → ℕ → Successors
where_holding condition.Always next p = to.One p
where_holding c next p = to.Two next p

-- the successors of a wide operation at place k: TLIT sets a target register to its immediate
abbrev pub wide_successors : WideOp → ℕ → ℕ → Successors
wide_successors wide.Literal imm k = to.One (next_pc k)
wide_successors wide.LiteralHigh imm k = to.One (next_pc k)
wide_successors wide.TargetLiteral imm k = to.Two (next_pc k) imm

-- The successors of a control operation at place k. JUMP, CALL, XCHG and CREATE use a target register: what it was set to
-- is a successor of what set it, and 0 where nothing did. CALL and XCHG leave the next place in one. TSET sets one to any
-- place.
abbrev pub control_successors : CPart → ControlOp → ℕ → Successors
control_successors c control.Nop k = to.One (next_pc k)
control_successors c control.Jump k = where_holding c.cond (next_pc k) unset_target
control_successors c control.Skip k = where_holding c.cond (next_pc k) (skip_pc k c.n)
control_successors c control.Call k = to.Two (next_pc k) unset_target
control_successors c control.Exchange k = to.Two (next_pc k) unset_target
control_successors c control.TargetSet k = to.Any
control_successors c control.TargetGet k = to.One (next_pc k)
control_successors c control.TrapGet k = to.One (next_pc k)
control_successors c control.Reserve k = to.One (next_pc k)
control_successors c control.Create k = to.Two (next_pc k) unset_target
control_successors c control.Quit k = to.None
control_successors c control.QuitKeep k = to.None
control_successors c control.Mask k = to.One (next_pc k)

-- the successors of an instruction at place k
abbrev pub successors_of : Insn → ℕ → Successors
successors_of (Wide look op reg imm) k = wide_successors op imm k
successors_of (Normal look m a c) k = control_successors c c.op k

-- the successors of what stands at place k: none where that is no instruction
abbrev pub successors_at : Fetch → ℕ → Successors
successors_at fetch.Rest k = to.None
successors_at (fetch.Trap t) k = to.None
successors_at (fetch.Instruction i) k = successors_of i k

-- place j is one of them
abbrev pub IsSuccessor : Successors → ℕ → Type 0
IsSuccessor to.None j = ⊥
IsSuccessor (to.One a) j = j ≡ a
IsSuccessor (to.Two a b) j = (j ≡ a) ⊎ (j ≡ b)
IsSuccessor to.Any j = ⊤
