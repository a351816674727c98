-- Two streams that hold the same where it matters, and their steps.
use Rattle.std.specs.Prelude.{◌≡◌, ℕ, ◌⊎◌, List, Option, length}
use Rattle.insn_word.specs.declared.profiles.Profile.{Profile}
use Rattle.tag_memory.specs.declared.requests.Reply.{Reply}
use Rattle.stream_core.specs.Registers.{register_at}
use Rattle.stream_core.specs.Streams.{StreamValue}
use Rattle.stream_core.specs.StreamRow.{fetch_of, control_from, stream_row}
use Rattle.stream_core.specs.declared.steps.Outcome.TheVariants as outcome
use Rattle.program_flow.specs.Agreement.{with_registers}
use Rattle.program_flow.specs.Flow.{IsClosed, EndsStream, Matters}
use Rattle.program_flow.specs.Codes.{with_codes, SameCodes, HasCodes}

-- Two streams are the same but for registers and condition codes, and hold the same registers and the same codes where
-- these count.
pub record AgreeIn (read asked : ℕ → Type 0) (s t : StreamValue) : Type 0 where
  pub rest : t ≡ with_codes (with_registers s t.registers) t.ssw.codes
  pub sizes : length t.registers ≡ length s.registers
  pub each : (r : ℕ) → read r → register_at t.registers r ≡ register_at s.registers r
  pub codes : SameCodes asked s.ssw.codes t.ssw.codes

-- Two streams agree in what matters: registers that are named, those that are live at the place where a stream runs, and
-- the codes that may be asked for from its place on.
abbrev pub StreamsAgree : (ℕ → Type 0) → (ℕ → ℕ → Type 0) → (ℕ → ℕ → Type 0) → StreamValue → StreamValue → Type 0
StreamsAgree named live asked s t = AgreeIn (Matters named live s) (asked s.ssw.pc) s t

-- What may be read from each place on is live there, and what may be asked for is asked for.
pub record TellsFlow (profile : Profile) (program : List ℕ) (handled : Type 0) (named : ℕ → Type 0)
    (live asked : ℕ → ℕ → Type 0) : Type 0 where
  pub registers : IsClosed profile program handled named live
  pub codes : HasCodes profile program handled asked

-- The steps of two streams come out the same, and leave streams that agree in what matters then, unless QUIT or QUITP is
-- done, which ends both.
pub record KeepsAgreement (profile : Profile) (program : List ℕ) (handled : Type 0) (named : ℕ → Type 0)
    (live asked : ℕ → ℕ → Type 0) (limit : ℕ) (s t : StreamValue) (grant : ℕ) (reply : Option Reply) : Type 0 where
  pub comes_out : (stream_row profile program limit t grant reply).1 ≡ (stream_row profile program limit s grant reply).1
  pub after : (((stream_row profile program limit s grant reply).1 ≡ outcome.Done)
      × EndsStream (control_from s (fetch_of profile program s)))
      ⊎ StreamsAgree named live asked (stream_row profile program limit s grant reply).0
      (stream_row profile program limit t grant reply).0
