-- A word seen a part at a time, by numbers, as the code reads it. Only private contracts cite this.
use Rattle.std.specs.Prelude.{◌≡◌, ℕ, ◌<◌, ◌/◌, ◌%◌, ◌^◌, true, List, [], ◌∷◌}
use Rattle.insn_word.specs.Fields.{Field, number_of_fields, AreInRange, total_width, width, value}
use Rattle.insn_word.specs.Words.{memory_fields, arithmetic_fields, control_fields, argument_fields, fields}
use Rattle.insn_word.specs.Words.{used_memory, used_arithmetic, used_control, WriteApart}
use Rattle.insn_word.specs.Operations.{has_operation}
use Rattle.insn_word.specs.declared.profiles.Profile.{Profile}
use Rattle.insn_word.specs.declared.operations.WideOp.{WideOp}
use Rattle.insn_word.specs.declared.insn.MPart.{MPart}
use Rattle.insn_word.specs.declared.insn.APart.{APart}
use Rattle.insn_word.specs.declared.insn.CPart.{CPart}
use Rattle.insn_word.specs.declared.insn.Insn.{Insn}
use Rattle.insn_word.specs.declared.insn.Insn.TheVariants as insn

-- These digits spell this part.

pub record IsMemoryPart (bits : ℕ) (m : MPart) : Type 0 where
  pub in_range : AreInRange (memory_fields m)
  pub number_is : number_of_fields (memory_fields m) ≡ bits
  pub rest : used_memory m.op m ≡ m

pub record IsArithmeticPart (bits : ℕ) (a : APart) : Type 0 where
  pub in_range : AreInRange (arithmetic_fields a)
  pub number_is : number_of_fields (arithmetic_fields a) ≡ bits
  pub rest : used_arithmetic a.op a ≡ a

pub record IsControlPart (bits : ℕ) (c : CPart) : Type 0 where
  pub in_range : AreInRange (control_fields c)
  pub number_is : number_of_fields (control_fields c) ≡ bits
  pub rest : used_control c.op c ≡ c

-- the fields' values stand in the number's digits
abbrev pub Reads : ℕ → List Field → Type 0
Reads n [] = Unit {0}
Reads n (f ∷ fs) = (n / 2 ^ total_width fs % 2 ^ width f ≡ value f) × Reads n fs

-- the arguments of this control part stand in these digits
pub record HasArguments (bits : ℕ) (c : CPart) : Type 0 where
  pub in_range : AreInRange (argument_fields c.op c)
  pub reads : Reads bits (argument_fields c.op c)
  pub rest : used_control c.op c ≡ c

-- The word spells this instruction, in this profile.

pub record IsWide (word look : ℕ) (op : WideOp) (reg imm : ℕ) : Type 0 where
  pub in_range : AreInRange (fields (insn.Wide look op reg imm))
  pub number_is : number_of_fields (fields (insn.Wide look op reg imm)) ≡ word

pub record IsNormal (p : Profile) (word look : ℕ) (m : MPart) (a : APart) (c : CPart) : Type 0 where
  pub in_word : word < 2 ^ 63
  pub look_is : word / 2 ^ 60 ≡ look
  pub memory : IsMemoryPart (word / 2 ^ 39 % 2 ^ 21) m
  pub arithmetic : IsArithmeticPart (word / 2 ^ 18 % 2 ^ 21) a
  pub control : IsControlPart (word % 2 ^ 18) c
  pub one_writer : WriteApart m a c
  pub in_profile : has_operation p m.op ≡ true

abbrev pub Holds : Profile → ℕ → Insn → Type 0
Holds p word (insn.Wide look op reg imm) = IsWide word look op reg imm
Holds p word (insn.Normal look m a c) = IsNormal p word look m a c
