-- The instructions of the two short forms are spelt by their parts.
use Rattle.std.proofs.Common.{◌≡◌, ℕ, ◌/◌, ◌%◌, ◌^◌, ◌<◌, true, refl, sym, ◌∙◌, arith, Some}
use Rattle.std.proofs.lemmas.Int.{ints}
use Rattle.insn_word.specs.Words.{memory_nop, arithmetic_nop, control_destination, WriteApart}
use Rattle.insn_word.specs.ShortInsns.{short_control_part, reference_part, reference_operation}
use Rattle.insn_word.specs.Parts.{IsMemoryPart, IsArithmeticPart, IsControlPart}
use Rattle.insn_word.specs.Operations.{has_operation}
use Rattle.insn_word.specs.Reading.{instruction_in}
use Rattle.insn_word.proofs.WordParts.{Spells-from_holds}
use Rattle.insn_word.proofs.Candidate.{instruction-spelt}
use Rattle.insn_word.specs.declared.profiles.Profile.{Profile}
use Rattle.insn_word.specs.declared.insn.MPart.{MPart}
use Rattle.insn_word.specs.declared.insn.APart.{APart}
use Rattle.insn_word.specs.declared.insn.CPart.{CPart}
use Rattle.insn_word.specs.declared.insn.Insn.TheVariants as insn
use Rattle.insn_word.specs.declared.short_insns.ShortControl.{ShortControl}
use Rattle.insn_word.specs.declared.short_insns.ShortControl.TheVariants as short
use Rattle.insn_word.specs.declared.short_insns.ReferenceOp.{ReferenceOp}
use Rattle.insn_word.specs.declared.short_insns.ReferenceOp.TheVariants as reference
use Rattle.insn_word.specs.declared.short_insns.ReferencePart.{ReferencePart}

writes_none : (c : ShortControl) → control_destination (short_control_part c).op (short_control_part c).rd ≡ 0
writes_none short.Nop = refl
writes_none (short.Skip cond code n) = refl

pub parts_spelt : (p : Profile) (word look : ℕ) (m : MPart) (a : APart) (c : CPart) → word < 2 ^ 63
    → look ≡ word / 2 ^ 60 % 2 ^ 3 → IsMemoryPart (word / 2 ^ 39 % 2 ^ 21) m
    → IsArithmeticPart (word / 2 ^ 18 % 2 ^ 21) a → IsControlPart (word % 2 ^ 18) c → WriteApart m a c
    → has_operation p m.op ≡ true → instruction_in p word ≡ Some (insn.Normal look m a c)
parts_spelt p word look m a c below look_is memory arithmetic control apart has =
    (instruction-spelt p word (insn.Normal look m a c)).1
    (Spells-from_holds p word (insn.Normal look m a c) (record {
      in_word = below;
      look_is = omega arith;
      memory = memory;
      arithmetic = arithmetic;
      control = control;
      one_writer = apart;
      in_profile = has;
    }))

pub short_spelt : (p : Profile) (word look : ℕ) (a : APart) (c : ShortControl) → word < 2 ^ 63
    → word / 2 ^ 39 % 2 ^ 21 ≡ 0
    → look ≡ word / 2 ^ 60 % 2 ^ 3 → IsArithmeticPart (word / 2 ^ 18 % 2 ^ 21) a
    → IsControlPart (word % 2 ^ 18) (short_control_part c)
    → instruction_in p word ≡ Some (insn.Normal look memory_nop a (short_control_part c))
short_spelt p word look a c below none look_is arithmetic control =
    parts_spelt p word look memory_nop a (short_control_part c) below look_is
    (record {
      in_range = (
        omega arith,
        (omega arith, (omega arith, (omega arith, ((omega (arith, ints), omega (arith, ints)), tt)))),
      );
      number_is = sym none;
      rest = refl;
    }) arithmetic control
    (record {
      memory_arithmetic = λ e. refl;
      memory_control = λ e. refl;
      arithmetic_control = λ e. e ∙ writes_none c;
    }) refl

has_reference : (p : Profile) (op : ReferenceOp) → has_operation p (reference_operation op) ≡ true
has_reference p reference.Load = refl
has_reference p reference.Store = refl
has_reference p reference.FetchAdd = refl
has_reference p reference.TagGet = refl
has_reference p reference.TagSet = refl

pub reference_spelt : (p : Profile) (word look : ℕ) (m : ReferencePart) (c : ShortControl) → word < 2 ^ 63
    → word / 2 ^ 18 % 2 ^ 21 ≡ 0
    → look ≡ word / 2 ^ 60 % 2 ^ 3 → IsMemoryPart (word / 2 ^ 39 % 2 ^ 21) (reference_part m)
    → IsControlPart (word % 2 ^ 18) (short_control_part c)
    → instruction_in p word ≡ Some (insn.Normal look (reference_part m) arithmetic_nop (short_control_part c))
reference_spelt p word look m c below none look_is memory control =
    parts_spelt p word look (reference_part m) arithmetic_nop (short_control_part c) below look_is memory
    (record {
      in_range = (omega arith, (omega arith, (omega arith, (omega arith, (omega arith, (omega arith, tt))))));
      number_is = sym none;
      rest = refl;
    }) control
    (record {
      memory_arithmetic = λ e. e;
      memory_control = λ e. e ∙ writes_none c;
      arithmetic_control = λ e. refl;
    }) (has_reference p m.op)
