-- Which word spells which instruction, in each profile.
use Rattle.std.specs.Prelude.{◌≡◌, ℕ, ◌<◌, ◌^◌, pos, unsigned_abs, Bool, true, false, ⊤, List, [], ◌∷◌, ◌++◌}
use Rattle.insn_word.specs.Operations.{wide_number, memory_number, access_number}
use Rattle.insn_word.specs.Operations.{arithmetic_number, control_number, condition_number, has_operation}
use Rattle.insn_word.specs.Fields.{Field, unsigned, signed, zeros, flag, digits, spelling, AreInRange}
use Rattle.insn_word.specs.declared.operations.WideOp.{WideOp}
use Rattle.insn_word.specs.declared.operations.WideOp.TheVariants as wide
use Rattle.insn_word.specs.declared.operations.MemoryOp.{MemoryOp}
use Rattle.insn_word.specs.declared.operations.MemoryOp.TheVariants as memory
use Rattle.insn_word.specs.declared.operations.Access.TheVariants as access
use Rattle.insn_word.specs.declared.operations.ArithmeticOp.{ArithmeticOp}
use Rattle.insn_word.specs.declared.operations.ArithmeticOp.TheVariants as arithmetic
use Rattle.insn_word.specs.declared.operations.ControlOp.{ControlOp}
use Rattle.insn_word.specs.declared.operations.ControlOp.TheVariants as control
use Rattle.insn_word.specs.declared.operations.Condition.TheVariants as condition
use Rattle.insn_word.specs.declared.profiles.Profile.{Profile}
use Rattle.insn_word.specs.declared.profiles.Profile.TheVariants as profile
use Rattle.insn_word.specs.declared.insn.MPart.{MPart}
use Rattle.insn_word.specs.declared.insn.APart.{APart}
use Rattle.insn_word.specs.declared.insn.CPart.{CPart}
use Rattle.insn_word.specs.declared.insn.Insn.{Insn}
use Rattle.insn_word.specs.declared.insn.Insn.TheVariants as insn

-- Fields, the most significant first.

-- the register of a wide word in five digits; a target register takes the last three of them
abbrev pub register_fields : WideOp → ℕ → List Field
register_fields wide.Literal reg = unsigned 5 reg ∷ []
register_fields wide.LiteralHigh reg = unsigned 5 reg ∷ []
register_fields wide.TargetLiteral reg = zeros 2 ∷ unsigned 3 reg ∷ []

-- the memory part of a normal word
abbrev pub memory_fields : MPart → List Field
memory_fields m =
    unsigned 3 (memory_number m.op) ∷ unsigned 2 (access_number m.acc) ∷ unsigned 5 m.rd ∷ unsigned 5 m.base
    ∷ signed 6 m.disp ∷ []

-- the arithmetic part of a normal word
abbrev pub arithmetic_fields : APart → List Field
arithmetic_fields a =
    unsigned 4 (arithmetic_number a.op) ∷ flag a.test ∷ flag a.imm ∷ unsigned 5 a.rd ∷ unsigned 5 a.ra
    ∷ unsigned 5 a.rb ∷ []

-- the arguments of a control operation in 14 digits, with zeros where it uses none
abbrev pub argument_fields : ControlOp → CPart → List Field
argument_fields control.Nop c = zeros 14 ∷ []
argument_fields control.Jump c =
    unsigned 4 (condition_number c.cond) ∷ unsigned 2 c.code ∷ unsigned 3 c.t ∷ zeros 5 ∷ []
argument_fields control.Skip c = unsigned 4 (condition_number c.cond) ∷ unsigned 2 c.code ∷ signed 8 c.n ∷ []
argument_fields control.Call c = unsigned 3 c.t ∷ unsigned 3 c.u ∷ zeros 8 ∷ []
argument_fields control.Exchange c = unsigned 3 c.t ∷ zeros 11 ∷ []
argument_fields control.TargetSet c = unsigned 3 c.t ∷ unsigned 5 c.ra ∷ zeros 6 ∷ []
argument_fields control.TargetGet c = unsigned 3 c.t ∷ unsigned 5 c.rd ∷ zeros 6 ∷ []
argument_fields control.TrapGet c = zeros 3 ∷ unsigned 5 c.rd ∷ zeros 6 ∷ []
argument_fields control.Reserve c = zeros 3 ∷ unsigned 5 c.rd ∷ unsigned 5 c.ra ∷ zeros 1 ∷ []
argument_fields control.Create c = unsigned 3 c.t ∷ unsigned 5 c.ra ∷ zeros 6 ∷ []
argument_fields control.Quit c = zeros 14 ∷ []
argument_fields control.QuitKeep c = zeros 14 ∷ []
argument_fields control.Mask c = unsigned 3 (unsigned_abs c.n) ∷ zeros 11 ∷ []

-- the control part of a normal word
abbrev pub control_fields : CPart → List Field
control_fields c = unsigned 4 (control_number c.op) ∷ argument_fields c.op c

-- a whole word: 1 for a wide one and 0 for a normal one, the lookahead, and the operation or the three parts
abbrev pub fields : Insn → List Field
fields (insn.Wide look op reg imm) =
    unsigned 1 1 ∷ unsigned 3 look ∷ unsigned 3 (wide_number op) ∷ register_fields op reg ++ zeros 20
    ∷ unsigned 32 imm ∷ []
fields (insn.Normal look m a c) =
    unsigned 1 0 ∷ unsigned 3 look ∷ memory_fields m ++ arithmetic_fields a ++ control_fields c

-- Each part with nothing but what its operation uses.

-- the memory part that asks nothing of the memory
abbrev pub memory_nop : MPart
memory_nop = record { op = memory.Nop; acc = access.FromPointer; rd = 0; base = 0; disp = pos 0 }

-- a memory part with what its operation uses, and zeros in place of the rest
abbrev pub used_memory : MemoryOp → MPart → MPart
used_memory memory.Nop m = memory_nop
used_memory memory.Load m = m
used_memory memory.Store m = m
used_memory memory.FetchAdd m = m
used_memory memory.TagGet m = record m { acc = access.FromPointer }
used_memory memory.TagSet m = record m { acc = access.FromPointer }
used_memory memory.Purge m = record m { acc = access.FromPointer }

-- the arithmetic part that computes nothing
abbrev pub arithmetic_nop : APart
arithmetic_nop = record { op = arithmetic.Nop; test = false; imm = false; rd = 0; ra = 0; rb = 0 }

-- an arithmetic part with what its operation uses, and zeros in place of the rest
abbrev pub used_arithmetic : ArithmeticOp → APart → APart
used_arithmetic arithmetic.Nop a = arithmetic_nop
used_arithmetic arithmetic.Add a = a
used_arithmetic arithmetic.Sub a = a
used_arithmetic arithmetic.Mul a = a
used_arithmetic arithmetic.And a = a
used_arithmetic arithmetic.Or a = a
used_arithmetic arithmetic.Xor a = a
used_arithmetic arithmetic.AndNot a = a
used_arithmetic arithmetic.ShiftLeft a = a
used_arithmetic arithmetic.ShiftRight a = a
used_arithmetic arithmetic.ShiftRightSigned a = a
used_arithmetic arithmetic.Tally a = record a { imm = false; rb = 0 }
used_arithmetic arithmetic.LessSigned a = a
used_arithmetic arithmetic.LessUnsigned a = a
used_arithmetic arithmetic.Pointer a = a

-- a control part of this operation, with zeros for all arguments
abbrev pub only_control : ControlOp → CPart
only_control op = record { op = op; cond = condition.Always; code = 0; t = 0; u = 0; rd = 0; ra = 0; n = pos 0 }

-- a control part with what its operation uses, and zeros in place of the rest
abbrev pub used_control : ControlOp → CPart → CPart
used_control control.Nop c = only_control control.Nop
used_control control.Jump c = record (only_control control.Jump) { cond = c.cond; code = c.code; t = c.t }
used_control control.Skip c = record (only_control control.Skip) { cond = c.cond; code = c.code; n = c.n }
used_control control.Call c = record (only_control control.Call) { t = c.t; u = c.u }
used_control control.Exchange c = record (only_control control.Exchange) { t = c.t }
used_control control.TargetSet c = record (only_control control.TargetSet) { t = c.t; ra = c.ra }
used_control control.TargetGet c = record (only_control control.TargetGet) { t = c.t; rd = c.rd }
used_control control.TrapGet c = record (only_control control.TrapGet) { rd = c.rd }
used_control control.Reserve c = record (only_control control.Reserve) { rd = c.rd; ra = c.ra }
used_control control.Create c = record (only_control control.Create) { t = c.t; ra = c.ra }
used_control control.Quit c = only_control control.Quit
used_control control.QuitKeep c = only_control control.QuitKeep
-- a mask isn't negative
used_control control.Mask c = record (only_control control.Mask) { n = pos (unsigned_abs c.n) }

-- A field that an operation doesn't use is zero.
abbrev pub RestIsZero : Insn → Type 0
RestIsZero (insn.Wide look op reg imm) = ⊤
RestIsZero (insn.Normal look m a c) =
    (used_memory m.op m ≡ m) × (used_arithmetic a.op a ≡ a) × (used_control c.op c ≡ c)

-- The register that an operation with this rd writes, and 0 where it writes none.

-- the register that a memory operation writes: rd, where it brings something back
abbrev pub memory_destination : MemoryOp → ℕ → ℕ
memory_destination memory.Nop rd = 0
memory_destination memory.Load rd = rd
memory_destination memory.Store rd = 0
memory_destination memory.FetchAdd rd = rd
memory_destination memory.TagGet rd = rd
memory_destination memory.TagSet rd = 0
memory_destination memory.Purge rd = 0

-- the register that an arithmetic operation writes: rd for all but NOP
abbrev pub arithmetic_destination : ArithmeticOp → ℕ → ℕ
arithmetic_destination arithmetic.Nop rd = 0
arithmetic_destination arithmetic.Add rd = rd
arithmetic_destination arithmetic.Sub rd = rd
arithmetic_destination arithmetic.Mul rd = rd
arithmetic_destination arithmetic.And rd = rd
arithmetic_destination arithmetic.Or rd = rd
arithmetic_destination arithmetic.Xor rd = rd
arithmetic_destination arithmetic.AndNot rd = rd
arithmetic_destination arithmetic.ShiftLeft rd = rd
arithmetic_destination arithmetic.ShiftRight rd = rd
arithmetic_destination arithmetic.ShiftRightSigned rd = rd
arithmetic_destination arithmetic.Tally rd = rd
arithmetic_destination arithmetic.LessSigned rd = rd
arithmetic_destination arithmetic.LessUnsigned rd = rd
arithmetic_destination arithmetic.Pointer rd = rd

-- the register that a control operation writes: rd for TGET, XGET and RESERVE
abbrev pub control_destination : ControlOp → ℕ → ℕ
control_destination control.Nop rd = 0
control_destination control.Jump rd = 0
control_destination control.Skip rd = 0
control_destination control.Call rd = 0
control_destination control.Exchange rd = 0
control_destination control.TargetSet rd = 0
control_destination control.TargetGet rd = rd
control_destination control.TrapGet rd = rd
control_destination control.Reserve rd = rd
control_destination control.Create rd = 0
control_destination control.Quit rd = 0
control_destination control.QuitKeep rd = 0
control_destination control.Mask rd = 0

-- If two registers are one, it is r0.
abbrev pub AreApart : ℕ → ℕ → Type 0
AreApart x y = x ≡ y → x ≡ 0

-- No two of the three parts write one register other than r0.
pub record WriteApart (m : MPart) (a : APart) (c : CPart) : Type 0 where
  pub memory_arithmetic : AreApart (memory_destination m.op m.rd) (arithmetic_destination a.op a.rd)
  pub memory_control : AreApart (memory_destination m.op m.rd) (control_destination c.op c.rd)
  pub arithmetic_control : AreApart (arithmetic_destination a.op a.rd) (control_destination c.op c.rd)

-- No two parts of an instruction write one register other than r0.
abbrev pub HasOneWriter : Insn → Type 0
HasOneWriter (insn.Wide look op reg imm) = ⊤
HasOneWriter (insn.Normal look m a c) = WriteApart m a c

-- whether the profile has the instruction's operations
abbrev pub is_in : Profile → Insn → Bool
is_in p (insn.Wide look op reg imm) = true
is_in p (insn.Normal look m a c) = has_operation p m.op

-- The word's 64 digits are those of the instruction's fields, in this profile.
pub record SpellsIn (p : Profile) (word : ℕ) (i : Insn) : Type 0 where
  pub in_word : word < 2 ^ 64
  pub digits_are : digits 64 word ≡ spelling (fields i)
  pub in_range : AreInRange (fields i)
  pub rest : RestIsZero i
  pub one_writer : HasOneWriter i
  pub in_profile : is_in p i ≡ true

-- Some word spells it, in this profile.
abbrev pub IsValidIn : Profile → Insn → Type 0
IsValidIn p i = (word : ℕ) × SpellsIn p word i

-- A word spells an instruction in Profile 1.
abbrev pub Spells : ℕ → Insn → Type 0
Spells = SpellsIn profile.One

-- Some word spells an instruction in Profile 1.
abbrev pub IsValid : Insn → Type 0
IsValid = IsValidIn profile.One
