-- Where a stream goes on, and which registers may be read from there.
use Rattle.std.specs.Prelude.{◌≡◌, ℕ, ◌⊎◌, ⊤, List, [], ◌∷◌, slice_get}
use Rattle.std.specs.List.{AllByRecursion}
use Rattle.insn_word.specs.declared.operations.MemoryOp.{MemoryOp}
use Rattle.insn_word.specs.declared.operations.MemoryOp.TheVariants as memory
use Rattle.insn_word.specs.declared.operations.ControlOp.{ControlOp}
use Rattle.insn_word.specs.declared.operations.ControlOp.TheVariants as control
use Rattle.insn_word.specs.declared.operations.Condition.{Condition}
use Rattle.insn_word.specs.declared.operations.Condition.TheVariants as condition
use Rattle.insn_word.specs.declared.insn.CPart.{CPart}
use Rattle.insn_word.specs.declared.insn.Insn.{Insn}
use Rattle.insn_word.specs.declared.insn.Insn.TheVariants.{Wide, Normal}
use Rattle.insn_word.specs.declared.profiles.Profile.{Profile}
use Rattle.stream_core.specs.Streams.{StreamValue}
use Rattle.stream_core.specs.Effects.{next_pc, skip_pc}
use Rattle.stream_core.specs.StreamRow.{fetch_word}
use Rattle.stream_core.specs.declared.steps.Status.TheVariants.{Running}
use Rattle.stream_core.specs.declared.steps.Fetch.{Fetch}
use Rattle.stream_core.specs.declared.steps.Fetch.TheVariants as fetch
use Rattle.stream_core.specs.declared.steps.Control.{Control}
use Rattle.stream_core.specs.declared.steps.Control.TheVariants as asks
use Rattle.program_flow.specs.Operands.{registers_written}
use Rattle.program_flow.specs.Agreement.{reads_at}

-- r is one of these
abbrev pub IsOneOf : List ℕ → ℕ → Type 0
IsOneOf [] r = ⊥
IsOneOf (x ∷ xs) r = (r ≡ x) ⊎ IsOneOf xs r

-- Where a SKIP with this condition goes on, from the next place or to p.
abbrev pub SkipsTo : Condition → ℕ → ℕ → ℕ → Type 0
SkipsTo condition.Always next p j = j ≡ p
SkipsTo c next p j = (j ≡ next) ⊎ (j ≡ p)

-- Where a control operation at place k goes on: JUMP, CALL and XCHG anywhere, QUIT and QUITP nowhere.
abbrev pub GoesBy : ControlOp → CPart → ℕ → ℕ → Type 0
GoesBy control.Nop c k j = j ≡ next_pc k
GoesBy control.Jump c k j = ⊤
GoesBy control.Skip c k j = SkipsTo c.cond (next_pc k) (skip_pc k c.n) j
GoesBy control.Call c k j = ⊤
GoesBy control.Exchange c k j = ⊤
GoesBy control.TargetSet c k j = j ≡ next_pc k
GoesBy control.TargetGet c k j = j ≡ next_pc k
GoesBy control.TrapGet c k j = j ≡ next_pc k
GoesBy control.Reserve c k j = j ≡ next_pc k
GoesBy control.Create c k j = j ≡ next_pc k
GoesBy control.Quit c k j = ⊥
GoesBy control.QuitKeep c k j = ⊥
GoesBy control.Mask c k j = j ≡ next_pc k

-- An instruction at place k that is done goes on at place j.
abbrev pub GoesTo : Insn → ℕ → ℕ → Type 0
GoesTo (Wide look op reg imm) k j = j ≡ next_pc k
GoesTo (Normal look m a c) k j = GoesBy c.op c k j

-- a word with this control operation and no reference may trap: CREATE, which may find no stream
abbrev pub MayTrapBy : ControlOp → Type 0
MayTrapBy control.Create = ⊤
MayTrapBy op = ⊥

-- a word with these two operations may trap: one with a reference, or CREATE
abbrev pub MayTrapWith : MemoryOp → ControlOp → Type 0
MayTrapWith memory.Nop op = MayTrapBy op
MayTrapWith m op = ⊤

-- What stands at the pc may trap: nothing that can be executed, or an instruction that may.
abbrev pub MayTrap : Fetch → Type 0
MayTrap fetch.Rest = ⊥
MayTrap (fetch.Trap k) = ⊤
MayTrap (fetch.Instruction (Wide look op reg imm)) = ⊥
MayTrap (fetch.Instruction (Normal look m a c)) = MayTrapWith m.op c.op

-- an instruction that asks so ends its stream: QUIT or QUITP
abbrev pub EndsStream : Control → Type 0
EndsStream asks.Plain = ⊥
EndsStream (asks.Reserve n) = ⊥
EndsStream (asks.Create child) = ⊥
EndsStream asks.Quit = ⊤
EndsStream asks.QuitKeep = ⊤

-- Where f stands at place k, `live` has what is read there, and what is live where it goes on and not written there.
-- Where a trap may have a handler, all registers are live at a word that may trap: a trap writes nothing.
pub record IsClosedAt (handled : Type 0) (live : ℕ → ℕ → Type 0) (k : ℕ) (f : Fetch) : Type 0 where
  pub reads : AllByRecursion (live k) (reads_at f)
  pub goes : (i : Insn) → f ≡ fetch.Instruction i → (j r : ℕ) → GoesTo i k j → live j r
      → live k r ⊎ IsOneOf (registers_written i) r
  pub traps : MayTrap f → handled → (r : ℕ) → live k r

-- So it is at each place of the program, and behind its end: what may be read from a place on, before it is written, is
-- live there. The registers `named` are live everywhere, r0 too.
pub record IsClosed (profile : Profile) (program : List ℕ) (handled : Type 0) (named : ℕ → Type 0)
    (live : ℕ → ℕ → Type 0) : Type 0 where
  pub zero : (k : ℕ) → live k 0
  pub names : (k r : ℕ) → named r → live k r
  pub each : (k : ℕ) → IsClosedAt handled live k (fetch_word profile (slice_get program k))

-- the registers of a stream that matter: the named ones, and where it runs those that are live at its pc
abbrev pub Matters : (ℕ → Type 0) → (ℕ → ℕ → Type 0) → StreamValue → ℕ → Type 0
Matters named live s r = named r ⊎ ((s.status ≡ Running) × live s.ssw.pc r)
