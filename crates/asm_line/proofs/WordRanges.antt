-- Instructions that the assembler reads are valid.
use Rattle.std.proofs.Common.{◌≡◌, ℕ, ◌<◌, ◌^◌, ◌==◌, true, ◌&&◌, List, [], ◌∷◌, ◌++◌, Result, Ok, Err, refl, arith}
use Rattle.std.proofs.Common.{⊎_elim}
use Rattle.std.specs.Prelude.{IfOk}
use Rattle.std.proofs.lemmas.Bool.Decides.{eqb_tells}
use Rattle.std.proofs.lemmas.Int.{ints}
use Rattle.insn_word.specs.Operations.{wide_number}
use Rattle.insn_word.specs.Fields.{IsFieldInRange, AreInRange, zeros, unsigned}
use Rattle.insn_word.specs.Words.{memory_fields, arithmetic_fields, control_fields, register_fields, memory_nop}
use Rattle.insn_word.specs.Words.{arithmetic_nop}
use Rattle.insn_word.specs.Words.{memory_destination, arithmetic_destination, AreApart, WriteApart, IsValidIn}
use Rattle.insn_word.specs.Reading.{are_apart}
use Rattle.insn_word.specs.Laws.{IsValidByFields}
use Rattle.insn_word.specs.declared.operations.WideOp.{WideOp}
use Rattle.insn_word.specs.declared.operations.WideOp.TheVariants as wide
use Rattle.insn_word.specs.declared.profiles.Profile.{Profile}
use Rattle.insn_word.specs.declared.insn.MPart.{MPart}
use Rattle.insn_word.specs.declared.insn.APart.{APart}
use Rattle.insn_word.specs.declared.insn.CPart.{CPart}
use Rattle.insn_word.specs.declared.insn.Insn.{Insn}
use Rattle.insn_word.specs.declared.insn.Insn.TheVariants as insn
use Rattle.asm_line.specs.Faults.{both}
use Rattle.asm_line.specs.Operands.{Places, register, target}
use Rattle.asm_line.specs.Parts.{immediate, wide_register, wide_word, memory_part, arithmetic_part, control_part}
use Rattle.asm_line.specs.Instructions.{no_operation, memory_word, arithmetic_word, control_word, nop_word, single}
use Rattle.asm_line.specs.Instructions.{memory_arithmetic_apart}
use Rattle.asm_line.specs.Instructions.{memory_control_apart, arithmetic_control_apart, unless_two, memory_arithmetic}
use Rattle.asm_line.specs.Instructions.{memory_arithmetic_word}
use Rattle.asm_line.specs.Instructions.{memory_control_word, arithmetic_control_word, full_word}
use Rattle.asm_line.specs.declared.fault.Fault.{Fault}
use Rattle.asm_line.specs.declared.fault.Fault.TheVariants as fault
use Rattle.asm_line.specs.declared.operation.Operation.{Operation}
use Rattle.asm_line.specs.declared.operation.Operation.TheVariants as operation
use Rattle.asm_line.proofs.OkRules.{ok_both, ok_map, ok_then, ok_if, all_append, and_left, and_right}
use Rattle.asm_line.proofs.NumberRanges.{register_range, target_range, immediate_range}
use Rattle.asm_line.proofs.NamedRanges.{IsNamed}
use Rattle.asm_line.proofs.PartRanges.{IsGoodMemory, IsGoodArithmetic, IsGoodControl, memory_part_range}
use Rattle.asm_line.proofs.PartRanges.{arithmetic_part_range}
use Rattle.asm_line.proofs.ControlRanges.{control_part_range}

pub record IsGoodWide (look : ℕ) (op : WideOp) (reg imm : ℕ) : Type 0 where
  pub look_range : look < 8
  pub reg_range : AreInRange (register_fields op reg)
  pub imm_range : imm < 2 ^ 32

pub record IsGoodNormal (profile : Profile) (look : ℕ) (m : MPart) (a : APart) (c : CPart) : Type 0 where
  pub look_range : look < 8
  pub memory : IsGoodMemory profile m
  pub arithmetic : IsGoodArithmetic a
  pub control : IsGoodControl c
  pub one_writer : WriteApart m a c

abbrev pub IsGood : Profile → Insn → Type 0
IsGood profile (insn.Wide look op reg imm) = IsGoodWide look op reg imm
IsGood profile (insn.Normal look m a c) = IsGoodNormal profile look m a c

wide_small : (op : WideOp) → wide_number op < 2 ^ 3
wide_small wide.Literal = omega arith
wide_small wide.LiteralHigh = omega arith
wide_small wide.TargetLiteral = omega arith

pub valid : IsValidByFields → (profile : Profile) (i : Insn) → IsGood profile i → IsValidIn profile i
valid law profile (insn.Wide look op reg imm) h = (law profile (insn.Wide look op reg imm)).1 (
  (
    omega arith,
    (
      h.look_range,
      (
        wide_small op,
        all_append IsFieldInRange (register_fields op reg) (zeros 20 ∷ unsigned 32 imm ∷ []) h.reg_range
            (omega arith, (h.imm_range, tt)),
      ),
    ),
  ),
  tt,
  tt,
  refl,
)
valid law profile (insn.Normal look m a c) h = (law profile (insn.Normal look m a c)).1 (
  (
    omega arith,
    (
      h.look_range,
      all_append IsFieldInRange (memory_fields m) (arithmetic_fields a ++ control_fields c) h.memory.ranges
          (all_append IsFieldInRange (arithmetic_fields a) (control_fields c) h.arithmetic.ranges h.control.ranges),
    ),
  ),
  (h.memory.rest, h.arithmetic.rest, h.control.rest),
  h.one_writer,
  h.memory.in_profile,
)

-- Writers.

is_zero : (x : ℕ) → (x == 0) ≡ true → x ≡ 0
is_zero x e = ⊎_elim (λ h. h.1) (λ h. let no = h.0 in cc) (eqb_tells x 0)

apart : (x y : ℕ) → are_apart x y ≡ true → AreApart x y
apart x y e same = ⊎_elim (λ h. is_zero x (rw h.0 at e)) (λ h. absurd (h.1 same)) (eqb_tells x y)

good_nop_memory : (profile : Profile) → IsGoodMemory profile memory_nop
good_nop_memory profile = record {
  ranges = (
    omega arith,
    (omega arith, (omega arith, (omega arith, ((omega (arith, ints), omega (arith, ints)), tt)))),
  );
  rest = refl;
  in_profile = refl;
}

good_nop_arithmetic : IsGoodArithmetic arithmetic_nop
good_nop_arithmetic = record {
  ranges = (omega arith, (omega arith, (omega arith, (omega arith, (omega arith, (omega arith, tt))))));
  rest = refl;
}

good_nop_control : IsGoodControl no_operation
good_nop_control = record { ranges = (omega arith, (omega arith, tt)); rest = refl }

small : 0 < 8
small = omega arith

good_memory : (profile : Profile) (m : MPart) → IsGoodMemory profile m → IsGood profile (memory_word m)
good_memory profile m h = record {
  look_range = small;
  memory = h;
  arithmetic = good_nop_arithmetic;
  control = good_nop_control;
  one_writer = record { memory_arithmetic = λ e. e; memory_control = λ e. e; arithmetic_control = λ e. e };
}

good_arithmetic : (profile : Profile) (a : APart) → IsGoodArithmetic a → IsGood profile (arithmetic_word a)
good_arithmetic profile a h = record {
  look_range = small;
  memory = good_nop_memory profile;
  arithmetic = h;
  control = good_nop_control;
  one_writer = record { memory_arithmetic = λ e. refl; memory_control = λ e. e; arithmetic_control = λ e. e };
}

good_control : (profile : Profile) (c : CPart) → IsGoodControl c → IsGood profile (control_word c)
good_control profile c h = record {
  look_range = small;
  memory = good_nop_memory profile;
  arithmetic = good_nop_arithmetic;
  control = h;
  one_writer = record { memory_arithmetic = λ e. e; memory_control = λ e. refl; arithmetic_control = λ e. refl };
}

-- One operation.

nop_range : (profile : Profile) (os : List (List ℕ)) → IfOk (nop_word os) (IsGood profile)
nop_range profile [] = good_memory profile memory_nop (good_nop_memory profile)
nop_range profile (x ∷ os) = tt

register_field : (op : WideOp) (text : List ℕ) → IfOk (wide_register op text) (λ n. AreInRange (register_fields op n))
register_field wide.Literal text = wider (register text) (register_range text)
  where
    wider : (r : Result ℕ Fault) → IfOk r (λ n. n < 32) → IfOk r (λ n. AreInRange (register_fields wide.Literal n))
    wider (Ok n) h = (h, tt)
    wider (Err e) h = tt
register_field wide.LiteralHigh text = wider (register text) (register_range text)
  where
    wider : (r : Result ℕ Fault) → IfOk r (λ n. n < 32)
        → IfOk r (λ n. AreInRange (register_fields wide.LiteralHigh n))
    wider (Ok n) h = (h, tt)
    wider (Err e) h = tt
register_field wide.TargetLiteral text = wider (target text) (target_range text)
  where
    wider : (r : Result ℕ Fault) → IfOk r (λ n. n < 8)
        → IfOk r (λ n. AreInRange (register_fields wide.TargetLiteral n))
    wider (Ok n) h = (omega arith, (h, tt))
    wider (Err e) h = tt

wide_range : (profile : Profile) (places : Places) (op : WideOp) (os : List (List ℕ))
    → IfOk (wide_word places op os) (IsGood profile)
wide_range profile places op (x ∷ y ∷ []) =
    ok_map (λ v. insn.Wide 0 op v.0 v.1) (λ v. AreInRange (register_fields op v.0) × (v.1 < 2 ^ 32)) (IsGood profile)
    (both (wide_register op x) (immediate places y))
    (λ v r. record { look_range = small; reg_range = r.0; imm_range = r.1 })
    (ok_both (λ n. AreInRange (register_fields op n)) (λ n. n < 2 ^ 32) (wide_register op x) (immediate places y)
    (register_field op x) (immediate_range places y))
wide_range profile places op [] = tt
wide_range profile places op (x ∷ []) = tt
wide_range profile places op (x ∷ y ∷ z ∷ os) = tt

pub single_range : (profile : Profile) (places : Places) (here : ℕ) (o : Operation) (os : List (List ℕ))
    → IsNamed profile o
    → IfOk (single places here o os) (IsGood profile)
unfolding single
single_range profile places here operation.Nop os h = nop_range profile os
single_range profile places here (operation.Wide op) os h = wide_range profile places op os
single_range profile places here (operation.Memory op acc) os h =
    ok_map memory_word (IsGoodMemory profile) (IsGood profile) (memory_part op acc os) (good_memory profile)
    (memory_part_range profile op acc os h)
single_range profile places here (operation.Arithmetic op test) os h =
    ok_map arithmetic_word IsGoodArithmetic (IsGood profile) (arithmetic_part op test os) (good_arithmetic profile)
    (arithmetic_part_range op test os h)
single_range profile places here (operation.Control op) os h =
    ok_map control_word IsGoodControl (IsGood profile) (control_part places here op os) (good_control profile)
    (control_part_range places here op os)

-- Two and three operations.

abbrev AreGoodApart : Profile → MPart × APart → Type 0
AreGoodApart profile v =
    IsGoodMemory profile v.0 × IsGoodArithmetic v.1 × AreApart (memory_destination v.0.op v.0.rd)
    (arithmetic_destination v.1.op v.1.rd)

memory_arithmetic_range : (profile : Profile) (m : Result MPart Fault) (a : Result APart Fault)
    → IfOk m (IsGoodMemory profile)
    → IfOk a IsGoodArithmetic
    → IfOk (memory_arithmetic m a) (AreGoodApart profile)
memory_arithmetic_range profile m a h k =
    ok_then (λ v. unless_two (memory_arithmetic_apart v.0 v.1) v) (λ v. IsGoodMemory profile v.0 × IsGoodArithmetic v.1)
    (AreGoodApart profile) (both m a)
    (λ v g. ok_if (memory_arithmetic_apart v.0 v.1) v fault.TwoWriters (AreGoodApart profile)
    (λ e. (g.0, g.1, apart _ _ e)))
    (ok_both (IsGoodMemory profile) IsGoodArithmetic m a h k)

pub memory_arithmetic_word_range : (profile : Profile) (m : Result MPart Fault) (a : Result APart Fault)
    → IfOk m (IsGoodMemory profile)
    → IfOk a IsGoodArithmetic
    → IfOk (memory_arithmetic_word m a) (IsGood profile)
unfolding memory_arithmetic_word
memory_arithmetic_word_range profile m a h k =
    ok_map (λ v. insn.Normal 0 v.0 v.1 no_operation) (AreGoodApart profile) (IsGood profile) (memory_arithmetic m a)
    (λ v g. record {
      look_range = small;
      memory = g.0;
      arithmetic = g.1;
      control = good_nop_control;
      one_writer = record { memory_arithmetic = g.2; memory_control = λ e. e; arithmetic_control = λ e. e };
    })
    (memory_arithmetic_range profile m a h k)

pub memory_control_word_range : (profile : Profile) (m : Result MPart Fault) (c : Result CPart Fault)
    → IfOk m (IsGoodMemory profile)
    → IfOk c IsGoodControl
    → IfOk (memory_control_word m c) (IsGood profile)
unfolding memory_control_word
memory_control_word_range profile m c h k =
    ok_then (λ v. unless_two (memory_control_apart v.0 v.1) (insn.Normal 0 v.0 arithmetic_nop v.1))
    (λ v. IsGoodMemory profile v.0 × IsGoodControl v.1) (IsGood profile) (both m c)
    (λ v g. ok_if (memory_control_apart v.0 v.1) (insn.Normal 0 v.0 arithmetic_nop v.1) fault.TwoWriters
    (IsGood profile)
    (λ e. record {
      look_range = small;
      memory = g.0;
      arithmetic = good_nop_arithmetic;
      control = g.1;
      one_writer =
          record { memory_arithmetic = λ e. e; memory_control = apart _ _ e; arithmetic_control = λ e. refl };
    }))
    (ok_both (IsGoodMemory profile) IsGoodControl m c h k)

pub arithmetic_control_word_range : (profile : Profile) (a : Result APart Fault) (c : Result CPart Fault)
    → IfOk a IsGoodArithmetic
    → IfOk c IsGoodControl
    → IfOk (arithmetic_control_word a c) (IsGood profile)
unfolding arithmetic_control_word
arithmetic_control_word_range profile a c h k =
    ok_then (λ v. unless_two (arithmetic_control_apart v.0 v.1) (insn.Normal 0 memory_nop v.0 v.1))
    (λ v. IsGoodArithmetic v.0 × IsGoodControl v.1) (IsGood profile) (both a c)
    (λ v g. ok_if (arithmetic_control_apart v.0 v.1) (insn.Normal 0 memory_nop v.0 v.1) fault.TwoWriters
    (IsGood profile)
    (λ e. record {
      look_range = small;
      memory = good_nop_memory profile;
      arithmetic = g.0;
      control = g.1;
      one_writer =
          record { memory_arithmetic = λ e. refl; memory_control = λ e. refl; arithmetic_control = apart _ _ e };
    }))
    (ok_both IsGoodArithmetic IsGoodControl a c h k)

pub full_word_range : (profile : Profile) (m : Result MPart Fault) (a : Result APart Fault) (c : Result CPart Fault)
    → IfOk m (IsGoodMemory profile)
    → IfOk a IsGoodArithmetic
    → IfOk c IsGoodControl → IfOk (full_word m a c) (IsGood profile)
unfolding full_word
full_word_range profile m a c h k l =
    ok_then (λ v. unless_two (memory_control_apart v.0.0 v.1 && arithmetic_control_apart v.0.1 v.1)
    (insn.Normal 0 v.0.0 v.0.1 v.1))
    (λ v. AreGoodApart profile v.0 × IsGoodControl v.1) (IsGood profile) (both (memory_arithmetic m a) c)
    (λ v g. ok_if (memory_control_apart v.0.0 v.1 && arithmetic_control_apart v.0.1 v.1)
    (insn.Normal 0 v.0.0 v.0.1 v.1) fault.TwoWriters (IsGood profile) (λ e. record {
      look_range = small;
      memory = g.0.0;
      arithmetic = g.0.1;
      control = g.1;
      one_writer = record {
        memory_arithmetic = g.0.2;
        memory_control = apart _ _ (and_left (memory_control_apart v.0.0 v.1) (arithmetic_control_apart v.0.1 v.1) e);
        arithmetic_control =
            apart _ _ (and_right (memory_control_apart v.0.0 v.1) (arithmetic_control_apart v.0.1 v.1) e);
      };
    }))
    (ok_both (AreGoodApart profile) IsGoodControl (memory_arithmetic m a) c (memory_arithmetic_range profile m a h k) l)
