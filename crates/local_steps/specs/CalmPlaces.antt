-- From which places of a program no way leads to a RESERVE or CREATE, as far as the program alone tells. A JUMP, CALL or
-- XCHG may lead anywhere, and so may a trap where t0 names a handler.
use Rattle.std.specs.Prelude.{ℕ, ⊤, ◌==◌, Bool, true, false, not, List, IsTrue, slice_get}
use Rattle.insn_word.specs.declared.operations.WideOp.{WideOp}
use Rattle.insn_word.specs.declared.operations.WideOp.TheVariants as wide
use Rattle.insn_word.specs.declared.operations.ControlOp.{ControlOp}
use Rattle.insn_word.specs.declared.operations.ControlOp.TheVariants as control
use Rattle.insn_word.specs.declared.profiles.Profile.{Profile}
use Rattle.insn_word.specs.declared.insn.Insn.{Insn}
use Rattle.insn_word.specs.declared.insn.Insn.TheVariants.{Wide, Normal}
use Rattle.stream_core.specs.StreamRow.{fetch_word}
use Rattle.stream_core.specs.declared.steps.Fetch.{Fetch}
use Rattle.stream_core.specs.declared.steps.Fetch.TheVariants as fetch
use Rattle.program_flow.specs.Flow.{GoesTo}
use Rattle.local_steps.specs.SettledEndings.{is_settled_place}

-- whether a wide operation leaves t0
abbrev pub is_calm_wide : WideOp → ℕ → Bool
is_calm_wide wide.Literal reg = true
is_calm_wide wide.LiteralHigh reg = true
is_calm_wide wide.TargetLiteral reg = not (reg == 0)

-- whether a control operation, with this target register, asks for no stream, leaves t0, and leads to places that the word
-- names
abbrev pub is_calm_control : ControlOp → ℕ → Bool
is_calm_control control.Nop t = true
is_calm_control control.Jump t = false
is_calm_control control.Skip t = true
is_calm_control control.Call t = false
is_calm_control control.Exchange t = false
is_calm_control control.TargetSet t = not (t == 0)
is_calm_control control.TargetGet t = true
is_calm_control control.TrapGet t = true
is_calm_control control.Reserve t = false
is_calm_control control.Create t = false
is_calm_control control.Quit t = true
is_calm_control control.QuitKeep t = true
is_calm_control control.Mask t = true

-- whether an instruction does
abbrev pub is_calm : Insn → Bool
is_calm (Wide look op reg imm) = is_calm_wide op reg
is_calm (Normal look m a c) = is_calm_control c.op c.t

-- What stands at place k is calm, and leads to settled places; a trap without a handler leads nowhere.
abbrev pub IsCalmAt : List Bool → ℕ → Fetch → Type 0
IsCalmAt places k fetch.Rest = ⊤
IsCalmAt places k (fetch.Trap kind) = ⊤
IsCalmAt places k (fetch.Instruction i) =
    IsTrue (is_calm i) × ((j : ℕ) → GoesTo i k j → IsTrue (is_settled_place places j))

-- so it is at each settled place of the program
abbrev pub AreCalm : Profile → List ℕ → List Bool → Type 0
AreCalm profile program places =
    (k : ℕ) → IsTrue (is_settled_place places k) → IsCalmAt places k (fetch_word profile (slice_get program k))
