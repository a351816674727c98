-- Conditions that ask a code which no run has made.
use Rattle.std.specs.Prelude.{◌≡◌, ◌≢◌, ℕ, ⊤, true, List, Some, slice_get}
use Rattle.insn_word.specs.declared.operations.ControlOp.{ControlOp}
use Rattle.insn_word.specs.declared.operations.ControlOp.TheVariants as control
use Rattle.insn_word.specs.declared.operations.Condition.TheVariants as condition
use Rattle.insn_word.specs.declared.insn.MPart.{MPart}
use Rattle.insn_word.specs.declared.insn.APart.{APart}
use Rattle.insn_word.specs.declared.insn.CPart.{CPart}
use Rattle.insn_word.specs.declared.insn.Insn.TheVariants.{Normal}
use Rattle.image_file.specs.ImageValue.{ImageValue}
use Rattle.stream_core.specs.StatusWords.{no_code}
use Rattle.stream_core.specs.Effects.{code_at}
use Rattle.processor.specs.Processors.{ProcessorValue, stream_at}
use Rattle.processor.specs.Records.{is_running}
use Rattle.processor.specs.World.{run}
use Rattle.processor.specs.declared.steps.Step.{Step}
use Rattle.source_slips.specs.Places.{insn_at}

-- In no world that a schedule of the image leads to has a running stream at place k a bit in its condition code c, 0 for
-- the newest: the code is as at the start, where none was made.
unfoldable pub IsNeverMade : ImageValue → ℕ → ℕ → Type 0
IsNeverMade image k c =
    (ts : List Step) (p n : ℕ) (proc : ProcessorValue) → slice_get (run image ts).processors p ≡ Some proc
    → is_running (stream_at proc.streams n) ≡ true → (stream_at proc.streams n).ssw.pc ≡ k
    → code_at (stream_at proc.streams n).ssw.codes c ≡ no_code

-- a control operation with a condition
abbrev pub HasCondition : ControlOp → Type 0
HasCondition control.Jump = ⊤
HasCondition control.Skip = ⊤
HasCondition o = ⊥

-- At place k stands a SKIP or JUMP whose condition asks a code that is never made there.
pub record AsksNoCode (image : ImageValue) (k : ℕ) : Type 0 where
  pub look : ℕ
  pub m : MPart
  pub a : APart
  pub c : CPart
  pub stands : insn_at image k ≡ Some (Normal look m a c)
  pub operation : HasCondition c.op
  pub conditional : c.cond ≢ condition.Always
  pub never : IsNeverMade image k c.code
