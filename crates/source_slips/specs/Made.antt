-- A table of how many condition codes a stream that stands at a place has made at most, and when it is closed: what each
-- instruction leaves is in it too.
use Rattle.std.specs.Prelude.{◌≡◌, ◌≢◌, ◌⊎◌, ℕ, ◌+◌, ◌≤◌, ◌<◌, ⊤, Bool, true, false}
use Rattle.std.specs.Prelude.{List, Option, Some, None, length, slice_get}
use Rattle.insn_word.specs.declared.operations.WideOp.{WideOp}
use Rattle.insn_word.specs.declared.operations.WideOp.TheVariants as wide
use Rattle.insn_word.specs.declared.operations.ControlOp.{ControlOp}
use Rattle.insn_word.specs.declared.operations.ControlOp.TheVariants as control
use Rattle.insn_word.specs.declared.operations.Condition.TheVariants as condition
use Rattle.insn_word.specs.declared.insn.CPart.{CPart}
use Rattle.insn_word.specs.declared.insn.Insn.{Insn}
use Rattle.insn_word.specs.declared.insn.Insn.TheVariants.{Wide, Normal}
use Rattle.image_file.specs.ImageValue.{ImageValue}
use Rattle.stream_core.specs.Effects.{next_pc}
use Rattle.source_slips.specs.Places.{insn_at, GoesStraightBy}
use Rattle.source_slips.specs.Codes.{HasCondition}

-- n codes are no more than so many; all are within four, which is all that a stream keeps
abbrev pub IsWithin : ℕ → ℕ → Type 0
IsWithin most n = (n ≤ most) ⊎ (4 ≤ most)

-- what the table says of a place allows n codes: past its end all is allowed
abbrev pub AllowsBy : Option (Option ℕ) → ℕ → Type 0
AllowsBy None n = ⊤
AllowsBy (Some None) n = ⊥
AllowsBy (Some (Some most)) n = IsWithin most n

-- how many codes are made at most by what a table says of a place; None where no stream comes
abbrev pub most_of : Option (Option ℕ) → Option ℕ
most_of None = None
most_of (Some None) = None
most_of (Some (Some most)) = Some most

-- the same by the table
abbrev pub most_at : List (Option ℕ) → ℕ → Option ℕ
most_at table k = most_of (slice_get table k)

-- a stream may come to place k with n codes
abbrev pub Allows : List (Option ℕ) → ℕ → ℕ → Type 0
Allows table k n = AllowsBy (slice_get table k) n

-- a stream may go to where a target register leads with n codes
abbrev pub AllowsAny : Option ℕ → ℕ → Type 0
AllowsAny None n = ⊥
AllowsAny (Some most) n = IsWithin most n

-- a target register may lead to place k
abbrev pub IsAimed : List (Option ℕ) → Option ℕ → ℕ → Type 0
IsAimed table None k = ⊤
IsAimed table (Some most) k = Allows table k most

-- how many codes are made behind an instruction that makes one, or none
abbrev pub count_after : Bool → ℕ → ℕ
count_after true n = n + 1
count_after false n = n

-- a control operation that goes to a target register
abbrev pub GoesByTarget : ControlOp → Type 0
GoesByTarget control.Jump = ⊤
GoesByTarget control.Call = ⊤
GoesByTarget o = ⊥

abbrev pub Starts : ControlOp → Type 0
Starts control.Create = ⊤
Starts o = ⊥

-- a control operation that sets a target register to the next place
abbrev pub Returns : ControlOp → Type 0
Returns control.Call = ⊤
Returns o = ⊥

-- a control operation that may set all of a status word, or t0, to which traps lead
abbrev pub SetsHandler : ControlOp → CPart → Type 0
SetsHandler control.Call c = c.u ≡ 0
SetsHandler control.Exchange c = ⊤
SetsHandler control.TargetSet c = ⊤
SetsHandler o c = ⊥

-- With n codes behind it, a control operation at place k leads to what the table has.
pub record ControlLeads (table : List (Option ℕ)) (anywhere : Option ℕ) (k n : ℕ) (c : CPart) (o : ControlOp) : Type 0 where
  pub straight : (j : ℕ) → GoesStraightBy o c k j → Allows table j n
  pub jumps : GoesByTarget o → AllowsAny anywhere n
  pub starts : Starts o → AllowsAny anywhere 0
  pub returns : Returns o → IsAimed table anywhere (next_pc k)
  pub handler : SetsHandler o c → ⊥

-- what a wide operation sets a target register to: also where no stream goes to one yet, with no code
abbrev pub WideAims : List (Option ℕ) → Option ℕ → WideOp → ℕ → ℕ → Type 0
WideAims table anywhere wide.Literal reg imm = ⊤
WideAims table anywhere wide.LiteralHigh reg imm = ⊤
WideAims table anywhere wide.TargetLiteral reg imm = IsAimed table anywhere imm × (reg ≡ 0 → ⊥) × Allows table imm 0

-- With n codes before it, an instruction at place k leads to what the table has.
abbrev pub Leads : List (Option ℕ) → Option ℕ → ℕ → ℕ → Insn → Type 0
Leads table anywhere k n (Wide look op reg imm) = Allows table (next_pc k) n × WideAims table anywhere op reg imm
Leads table anywhere k n (Normal look m a c) = ControlLeads table anywhere k (count_after a.test n) c c.op

-- the same of what stands at a place, if it is an instruction
abbrev pub LeadsIf : List (Option ℕ) → Option ℕ → ℕ → ℕ → Option Insn → Type 0
LeadsIf table anywhere k n None = ⊤
LeadsIf table anywhere k n (Some i) = Leads table anywhere k n i

-- what stands at place k leads to what the table has, if streams come there
abbrev pub LeadsWhere : ImageValue → List (Option ℕ) → Option ℕ → ℕ → Option ℕ → Type 0
LeadsWhere image table anywhere k None = ⊤
LeadsWhere image table anywhere k (Some n) = LeadsIf table anywhere k n (insn_at image k)

-- The table has all that streams of the image come to.
pub record IsClosedTable (image : ImageValue) (table : List (Option ℕ)) (anywhere : Option ℕ) : Type 0 where
  pub size : length table ≡ length image.program
  pub begins : (p e : ℕ) → slice_get image.entries p ≡ Some e → Allows table e 0
  pub handler : length table ≤ image.trap_entry
  pub unset : IsAimed table anywhere 0
  pub each : (k : ℕ) → LeadsWhere image table anywhere k (most_at table k)

-- an instruction has a condition on a code that n codes leave unmade
abbrev pub AsksFrom : ℕ → Insn → Type 0
AsksFrom n (Wide look op reg imm) = ⊥
AsksFrom n (Normal look m a c) =
    HasCondition c.op × ((c.cond ≢ condition.Always) × ((n ≤ c.code) × (c.code < 4)))

-- the same of what stands at a place
abbrev pub AsksIf : ℕ → Option Insn → Type 0
AsksIf n None = ⊥
AsksIf n (Some i) = AsksFrom n i
