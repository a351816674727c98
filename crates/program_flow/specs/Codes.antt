-- Condition codes: which of them an instruction asks for, and which may be asked for from a place on. They are numbered
-- from the newest on, which is 0, to the oldest, which is 3.
use Rattle.std.specs.Prelude.{◌≡◌, ◌⊎◌, ℕ, ◌-◌, ◌<◌, ◌==◌, Bool, true, false, List, [], ◌∷◌, if◌then◌else◌, slice_get}
use Rattle.std.specs.List.{AllByRecursion}
use Rattle.insn_word.specs.declared.operations.ControlOp.{ControlOp}
use Rattle.insn_word.specs.declared.operations.ControlOp.TheVariants as control
use Rattle.insn_word.specs.declared.operations.Condition.{Condition}
use Rattle.insn_word.specs.declared.operations.Condition.TheVariants as condition
use Rattle.insn_word.specs.declared.insn.CPart.{CPart}
use Rattle.insn_word.specs.declared.insn.Insn.{Insn}
use Rattle.insn_word.specs.declared.insn.Insn.TheVariants.{Wide, Normal}
use Rattle.insn_word.specs.declared.profiles.Profile.{Profile}
use Rattle.stream_core.specs.Streams.{StreamValue}
use Rattle.stream_core.specs.StreamRow.{fetch_word}
use Rattle.stream_core.specs.declared.status_words.Codes.{Codes}
use Rattle.stream_core.specs.declared.steps.Fetch.{Fetch}
use Rattle.stream_core.specs.declared.steps.Fetch.TheVariants as fetch
use Rattle.program_flow.specs.Flow.{GoesTo, MayTrap}

-- the stream with other condition codes
abbrev pub with_codes : StreamValue → Codes → StreamValue
with_codes s cs = record s { ssw = record s.ssw { codes = cs } }

-- Each code that counts is the same in both.
pub record SameCodes (counts : ℕ → Type 0) (cs ds : Codes) : Type 0 where
  pub newest : counts 0 → ds.newest ≡ cs.newest
  pub second : counts 1 → ds.second ≡ cs.second
  pub third : counts 2 → ds.third ≡ cs.third
  pub oldest : counts 3 → ds.oldest ≡ cs.oldest

-- the code that an instruction names by a number
abbrev pub code_named : ℕ → ℕ
code_named n = if n == 0 then 0 else if n == 1 then 1 else if n == 2 then 2 else 3

-- the codes that a condition asks for: one that always holds asks for none
abbrev pub codes_if : Condition → ℕ → List ℕ
codes_if condition.Always n = []
codes_if cond n = code_named n ∷ []

-- the codes that a control operation asks for: XCHG keeps all of them in a target register
abbrev pub codes_by : ControlOp → CPart → List ℕ
codes_by control.Jump c = codes_if c.cond c.code
codes_by control.Skip c = codes_if c.cond c.code
codes_by control.Exchange c = 0 ∷ 1 ∷ 2 ∷ 3 ∷ []
codes_by op c = []

-- the codes that an instruction asks for, as they stand before it
abbrev pub codes_asked : Insn → List ℕ
codes_asked (Wide look op reg imm) = []
codes_asked (Normal look m a c) = codes_by c.op c

-- the codes that are asked for where this stands at the pc
abbrev pub codes_at : Fetch → List ℕ
codes_at fetch.Rest = []
codes_at (fetch.Trap k) = []
codes_at (fetch.Instruction i) = codes_asked i

-- whether an instruction makes a new code (.T)
abbrev pub makes_code : Insn → Bool
makes_code (Wide look op reg imm) = false
makes_code (Normal look m a c) = a.test

-- What counts of the codes before an instruction, where code c counts behind it: the same code, or the one that was
-- newer by one, where the instruction makes a new code, which is the newest.
abbrev pub CameFrom : Bool → (ℕ → Type 0) → ℕ → Type 0
CameFrom true before c = (c ≡ 0) ⊎ before (c - 1)
CameFrom false before c = before c

-- Where f stands at place k, `asked` has the codes that are asked for there, and those that are asked for where it goes
-- on. Where a trap may have a handler, all codes are asked for at a word that may trap: the trap keeps them in t0.
pub record HasCodesAt (handled : Type 0) (asked : ℕ → ℕ → Type 0) (k : ℕ) (f : Fetch) : Type 0 where
  pub asks : AllByRecursion (asked k) (codes_at f)
  pub goes : (i : Insn) → f ≡ fetch.Instruction i → (j c : ℕ) → c < 4 → GoesTo i k j → asked j c
      → CameFrom (makes_code i) (asked k) c
  pub traps : MayTrap f → handled → (c : ℕ) → asked k c

-- So it is at each place of the program, and behind its end: `asked` has each code that may be asked for from a place on.
pub record HasCodes (profile : Profile) (program : List ℕ) (handled : Type 0) (asked : ℕ → ℕ → Type 0) : Type 0 where
  pub each : (k : ℕ) → HasCodesAt handled asked k (fetch_word profile (slice_get program k))
