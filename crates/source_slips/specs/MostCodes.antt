-- How many condition codes the ways to a place make at most: what the least closed table says of it.
use Rattle.std.specs.Prelude.{◌≡◌, ℕ, ◌+◌, ◌≤◌, ◌<◌, Bool, true, false, if◌then◌else◌, nat_lt, List, Option, None, Some, IfSome}
use Rattle.insn_word.specs.declared.operations.ControlOp.{ControlOp}
use Rattle.insn_word.specs.declared.operations.ControlOp.TheVariants as control
use Rattle.insn_word.specs.declared.operations.WideOp.{WideOp}
use Rattle.insn_word.specs.declared.operations.WideOp.TheVariants as wide
use Rattle.insn_word.specs.declared.insn.Insn.{Insn}
use Rattle.insn_word.specs.declared.insn.Insn.TheVariants.{Wide, Normal}
use Rattle.image_file.specs.ImageValue.{ImageValue}
use Rattle.stream_core.specs.Effects.{next_pc}
use Rattle.source_slips.specs.Places.{GoesStraight}
use Rattle.source_slips.specs.Codes.{IsNeverMade}
use Rattle.source_slips.specs.Made.{most_at, Allows, AllowsAny, IsAimed, IsClosedTable}

-- A table says nowhere more codes than another one.
pub record IsBelow (table : List (Option ℕ)) (anywhere : Option ℕ) (other : List (Option ℕ)) (elsewhere : Option ℕ) : Type 0 where
  pub places : (k n : ℕ) → most_at table k ≡ Some n → Allows other k n
  pub any : (n : ℕ) → anywhere ≡ Some n → AllowsAny elsewhere n

-- a table says nowhere more codes than any closed one
unfoldable pub IsLeast : ImageValue → List (Option ℕ) → Option ℕ → Type 0
IsLeast image table anywhere =
    (other : List (Option ℕ)) (elsewhere : Option ℕ) → IsClosedTable image other elsewhere
    → IsBelow table anywhere other elsewhere

-- The ways to place k make n codes at most: a closed table says so, and none says less. No later code has a bit there in
-- any world that a schedule of the image leads to.
pub record MostMade (image : ImageValue) (k n : ℕ) : Type 0 where
  pub table : List (Option ℕ)
  pub anywhere : Option ℕ
  pub closed : IsClosedTable image table anywhere
  pub least : IsLeast image table anywhere
  pub says : most_at table k ≡ Some n
  pub none_later : (c : ℕ) → n ≤ c → c < 4 → IsNeverMade image k c

-- What the search for the least table has of an instruction.

-- how many codes are made after an instruction that makes one, or none: at most four count
abbrev pub kept_after : Bool → ℕ → ℕ
kept_after true n = if nat_lt n 4 then n + 1 else 4
kept_after false n = n

-- the same by the instruction
abbrev pub kept_after_insn : Insn → ℕ → ℕ
kept_after_insn (Wide look op reg imm) n = n
kept_after_insn (Normal look m a c) n = kept_after a.test n

-- with how many codes a control operation with n after it goes to a target register, or starts a stream there
abbrev pub leaves_by : ControlOp → ℕ → Option ℕ
leaves_by control.Jump n = Some n
leaves_by control.Call n = Some n
leaves_by control.Create n = Some 0
leaves_by o n = None

-- the same of an instruction
abbrev pub leaves_with : Insn → ℕ → Option ℕ
leaves_with (Wide look op reg imm) n = None
leaves_with (Normal look m a c) n = leaves_by c.op n

-- to which place a wide operation sets a target register
abbrev pub aimed_by : WideOp → ℕ → Option ℕ
aimed_by wide.TargetLiteral imm = Some imm
aimed_by o imm = None

-- to which place a control operation does
abbrev pub returns_to : ControlOp → ℕ → Option ℕ
returns_to control.Call k = Some (next_pc k)
returns_to o k = None

-- to which place an instruction at place k does
abbrev pub aimed_place : Insn → ℕ → Option ℕ
aimed_place (Wide look op reg imm) k = aimed_by op imm
aimed_place (Normal look m a c) k = returns_to c.op k

-- a table has a place to which a target register is set, also where no stream goes to one yet
abbrev pub IsNamed : List (Option ℕ) → Option ℕ → ℕ → Type 0
IsNamed table anywhere k = IsAimed table anywhere k × Allows table k 0

-- With n codes before it, an instruction at place k leads to what the table has.
pub record LeadsBy (table : List (Option ℕ)) (anywhere : Option ℕ) (k n : ℕ) (i : Insn) : Type 0 where
  pub straight : (j : ℕ) → GoesStraight i k j → Allows table j (kept_after_insn i n)
  pub leaves : IfSome (leaves_with i (kept_after_insn i n)) (AllowsAny anywhere)
  pub unset : IfSome (leaves_with i (kept_after_insn i n)) (Allows table 0)
  pub aims : IfSome (aimed_place i k) (IsNamed table anywhere)
