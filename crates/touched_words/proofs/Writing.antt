-- What registers hold after the writes of an instruction.
use Rattle.std.proofs.Common.{◌≡◌, ◌≢◌, ℕ, ◌<◌, ◌≤◌, ◌==◌, inl, inr, Bool, true, false, refl, sym, ap, ◌∙◌, subst, arith}
use Rattle.std.proofs.Common.{if◌then◌else◌, List, [], ◌∷◌, length, set}
use Rattle.std.proofs.lemmas.Bool.{cases_lt, eqb-true, eqb-false}
use Rattle.std.proofs.lemmas.List.{length-set, get_or-set_same, get_or-set_other, get_or_past}
use Rattle.std.specs.Prelude.{IfSome, Option, Some, None}
use Rattle.insn_word.specs.Words.{memory_destination, arithmetic_destination, control_destination}
use Rattle.insn_word.specs.declared.operations.WideOp.{WideOp}
use Rattle.insn_word.specs.declared.insn.MPart.{MPart}
use Rattle.insn_word.specs.declared.insn.APart.{APart}
use Rattle.insn_word.specs.declared.insn.CPart.{CPart}
use Rattle.insn_word.specs.declared.insn.Insn.{Insn}
use Rattle.insn_word.specs.declared.insn.Insn.TheVariants.{Wide, Normal}
use Rattle.stream_core.specs.Registers.{register_at, with_register}
use Rattle.stream_core.specs.Streams.{StreamValue}
use Rattle.stream_core.specs.Arithmetic.{result_of}
use Rattle.stream_core.specs.Effects.{arithmetic_value, second_operand, control_value}
use Rattle.program_flow.specs.Operands.{wide_destination}
use Rattle.program_flow.specs.Agreement.{wide_value, writes, after_writes, registers_over}
use Rattle.touched_words.specs.declared.few.Few.{Few}
use Rattle.touched_words.specs.TouchTables.{IsOneOf, IsKnownWithin, known_by, HoldsKnown}

pub length_with : (rs : List ℕ) (d v : ℕ) → length (with_register rs d v) ≡ length rs
length_with rs d v = by (d == 0) where
  by : (b : Bool) → length (if b then rs else set rs d v) ≡ length rs
  by true = refl
  by false = length-set rs d v

-- another register stays
pub kept_with : (rs : List ℕ) (d v r : ℕ) → d ≢ r → register_at (with_register rs d v) r ≡ register_at rs r
kept_with rs d v r apart = by (d == 0) where
  by : (b : Bool) → register_at (if b then rs else set rs d v) r ≡ register_at rs r
  by true = refl
  by false = get_or-set_other rs d r v 0 (λ e. apart (sym e))

-- r0 stays
pub kept_zero : (rs : List ℕ) (d v : ℕ) → register_at (with_register rs d v) 0 ≡ register_at rs 0
kept_zero rs d v = by (d == 0) refl where
  by : (b : Bool) → (d == 0) ≡ b → register_at (if b then rs else set rs d v) 0 ≡ register_at rs 0
  by true e = refl
  by false e = get_or-set_other rs d 0 v 0 (λ z. eqb-false d 0 e (sym z))

-- the register that is written has the value
pub made_with : (rs : List ℕ) (d v r : ℕ) → length rs ≡ 32 → r < 32 → r ≢ 0 → d ≡ r
    → register_at (with_register rs d v) r ≡ v
made_with rs d v r size below some same = by (d == 0) refl where
  by : (b : Bool) → (d == 0) ≡ b → register_at (if b then rs else set rs d v) r ≡ v
  by true e = absurd (some (sym same ∙ eqb-true d 0 e))
  by false e =
      ap (λ k. register_at (set rs k v) r) same ∙ get_or-set_same rs r v 0 (omega (arith, size, below))

pub length_writes : (rs : List ℕ) (ws : List (ℕ × ℕ)) → length (after_writes rs ws) ≡ length rs
length_writes rs [] = refl
length_writes rs (w ∷ ws) = length_writes (with_register rs w.0 w.1) ws ∙ length_with rs w.0 w.1

-- r0 stays after all writes
pub zero_writes : (rs : List ℕ) (ws : List (ℕ × ℕ)) → register_at (after_writes rs ws) 0 ≡ register_at rs 0
zero_writes rs [] = refl
zero_writes rs (w ∷ ws) = zero_writes (with_register rs w.0 w.1) ws ∙ kept_zero rs w.0 w.1

-- what is known of r0 is known after an instruction
pub zero_known : (row : List (Option Few)) (o : Option Few) (r : ℕ) (i : Insn) → o ≡ known_by row r → r ≡ 0
    → IfSome o (λ few. (s : StreamValue) (value grant : ℕ) → HoldsKnown row s.registers
    → IsOneOf few (register_at (registers_over s i value grant s.registers) r))
zero_known row None r i e z = tt
zero_known row (Some few) r i e z = λ s value grant h.
    let same : register_at (registers_over s i value grant s.registers) r ≡ register_at s.registers r =
    ap (register_at (registers_over s i value grant s.registers)) z
    ∙ zero_writes s.registers (writes s i value grant)
    ∙ ap (register_at s.registers) (sym z) in
    subst (IsOneOf few) (sym same) (h.each r few (sym e))

-- and so it is of a register that a wide operation does not write
pub wide_known : (row : List (Option Few)) (o : Option Few) (r look reg imm : ℕ) (op : WideOp) → o ≡ known_by row r
    → wide_destination op reg ≢ r
    → IfSome o (λ few. (s : StreamValue) (value grant : ℕ) → HoldsKnown row s.registers
    → IsOneOf few (register_at (registers_over s (Wide look op reg imm) value grant s.registers) r))
wide_known row None r look reg imm op e apart = tt
wide_known row (Some few) r look reg imm op e apart = λ s value grant h.
    subst (IsOneOf few) (sym (kept_with s.registers (wide_destination op reg) (wide_value s op reg imm) r apart))
    (h.each r few (sym e))

-- what an arithmetic operation may write is known by what its operands may be
pub arithmetic_known : (row : List (Option Few)) (a : APart) (o : Option Few) (first second : Few)
    → known_by row a.ra ≡ Some first
    → ((s : StreamValue) → HoldsKnown row s.registers → IsOneOf second (second_operand s a))
    → IfSome o (λ few. (m n : ℕ) → IsOneOf first m → IsOneOf second n → IsOneOf few (result_of a.op m n))
    → IfSome o (λ few. (s : StreamValue) → HoldsKnown row s.registers → IsOneOf few (arithmetic_value s a))
arithmetic_known row a None first second known operand r = tt
arithmetic_known row a (Some few) first second known operand r = λ s h.
    r (register_at s.registers a.ra) (second_operand s a) (h.each a.ra first known) (operand s h)

-- and so it is of a register that no part of a normal instruction writes
pub other_known : (row : List (Option Few)) (o : Option Few) (r look : ℕ) (m : MPart) (a : APart) (c : CPart)
    → o ≡ known_by row r → memory_destination m.op m.rd ≢ r → arithmetic_destination a.op a.rd ≢ r
    → control_destination c.op c.rd ≢ r
    → IfSome o (λ few. (s : StreamValue) (value grant : ℕ) → HoldsKnown row s.registers
    → IsOneOf few (register_at (registers_over s (Normal look m a c) value grant s.registers) r))
other_known row None r look m a c e first second third = tt
other_known row (Some few) r look m a c e first second third = λ s value grant h.
    let once = with_register s.registers (memory_destination m.op m.rd) value in
    let twice = with_register once (arithmetic_destination a.op a.rd) (arithmetic_value s a) in
    let same : register_at (registers_over s (Normal look m a c) value grant s.registers) r ≡ register_at s.registers r =
    kept_with twice (control_destination c.op c.rd) (control_value s c c.op grant) r third
    ∙ kept_with once (arithmetic_destination a.op a.rd) (arithmetic_value s a) r second
    ∙ kept_with s.registers (memory_destination m.op m.rd) value r first in
    subst (IsOneOf few) (sym same) (h.each r few (sym e))

some_same : {a b : Few} → Some a ≡ Some b → a ≡ b
some_same e = cc

-- a register holds one of these numbers after an instruction, where what is known of it is within them
pub within_known : (row : List (Option Few)) (i : Insn) (r : ℕ) (o : Option Few) (all few : Few) → Some all ≡ Some few
    → IfSome o (λ some. (s : StreamValue) (value grant : ℕ) → HoldsKnown row s.registers
    → IsOneOf some (register_at (registers_over s i value grant s.registers) r))
    → IsKnownWithin o all → (s : StreamValue) (value grant : ℕ) → HoldsKnown row s.registers
    → IsOneOf few (register_at (registers_over s i value grant s.registers) r)
within_known row i r None all few same known within s value grant h = absurd within
within_known row i r (Some some) all few same known within s value grant h =
    let n = register_at (registers_over s i value grant s.registers) r in
    subst (λ (f : Few). IsOneOf f n) (some_same same) (within n (known s value grant h))

-- where each register is covered that a row knows, all are
pub covered : (row to : List (Option Few)) (i : Insn) (k : ℕ) → length to ≤ k
    → ((r : ℕ) (few : Few) → r < k → known_by to r ≡ Some few → (s : StreamValue) (value grant : ℕ)
    → HoldsKnown row s.registers → IsOneOf few (register_at (registers_over s i value grant s.registers) r))
    → (s : StreamValue) (value grant : ℕ) → HoldsKnown row s.registers
    → HoldsKnown to (registers_over s i value grant s.registers)
covered row to i k all each s value grant h = record {
  size = length_writes s.registers (writes s i value grant) ∙ h.size;
  each = λ r few e. elim (cases_lt r k) [
    | inl below ↦ each r few below e s value grant h
    | inr past ↦
        let none : None ≡ Some few = sym (get_or_past to r None (omega (arith, past, all))) ∙ e in
        cc
  ];
}
