-- What is read of a word is in its ranges, and zero where it is unused. So the instruction is the one that is spelt.
use Rattle.std.proofs.Common.{◌≡◌, ◌↔◌, ℕ, ◌-◌, ◌/◌, ◌%◌, ◌^◌, ◌<◌, pos, neg_ℤ, ◌≤ℤ◌, ◌<ℤ◌, Bool, true, false}
use Rattle.std.proofs.Common.{if◌then◌else◌, inl, inr, nat_lt, Option, Some, None}
use Rattle.std.proofs.Common.{refl, sym, ◌∙◌, ap, subst, arith}
use Rattle.std.specs.Bool.{Decides}
use Rattle.std.proofs.lemmas.Bool.Decides.{Decides-and, Decides-like, Decides-eqb, nat_tests}
use Rattle.std.proofs.lemmas.Bool.{cases_lt, lt-ltb, le-ltb}
use Rattle.std.proofs.lemmas.Int.{ints}
use Rattle.insn_word.specs.Operations.{memory_number, access_number, arithmetic_number, control_number}
use Rattle.insn_word.specs.Operations.{condition_number}
use Rattle.insn_word.specs.Fields.{AreInRange, number_of_fields}
use Rattle.insn_word.specs.Words.{memory_fields, arithmetic_fields, control_fields, fields, used_memory}
use Rattle.insn_word.specs.Words.{used_arithmetic, used_control, RestIsZero, AreApart, HasOneWriter, is_in, SpellsIn}
use Rattle.insn_word.specs.Words.{memory_destination, arithmetic_destination, control_destination}
use Rattle.insn_word.specs.Reading.{signed_read, memory_raw, arithmetic_raw, control_part_from, memory_part_at, arithmetic_part_at}
use Rattle.insn_word.specs.Reading.{control_read, wide_read, wide_from, wide_at, normal_at, candidate, are_apart}
use Rattle.insn_word.specs.Reading.{has_one_writer, reads_back, kept_if, instruction_in, InstructionIsSpelt}
use Rattle.insn_word.proofs.WordParts.{normal_in_range, Holds-from_spells, Spells-number, Spells-from_number}
use Rattle.insn_word.proofs.Read.{candidate-holds}
use Rattle.insn_word.specs.declared.operations.WideOp.{WideOp}
use Rattle.insn_word.specs.declared.operations.WideOp.TheVariants as wide
use Rattle.insn_word.specs.declared.operations.MemoryOp.{MemoryOp}
use Rattle.insn_word.specs.declared.operations.MemoryOp.TheVariants as memory
use Rattle.insn_word.specs.declared.operations.Access.{Access}
use Rattle.insn_word.specs.declared.operations.ArithmeticOp.{ArithmeticOp}
use Rattle.insn_word.specs.declared.operations.ArithmeticOp.TheVariants as arithmetic
use Rattle.insn_word.specs.declared.operations.ControlOp.{ControlOp}
use Rattle.insn_word.specs.declared.operations.ControlOp.TheVariants as control
use Rattle.insn_word.specs.declared.operations.Condition.{Condition}
use Rattle.insn_word.specs.declared.insn.MPart.{MPart}
use Rattle.insn_word.specs.declared.insn.APart.{APart}
use Rattle.insn_word.specs.declared.insn.Insn.{Insn}
use Rattle.insn_word.specs.declared.insn.Insn.TheVariants as insn

memory_small : (x : MemoryOp) → memory_number x < 2 ^ 3
memory_small x = grind arith

access_small : (x : Access) → access_number x < 2 ^ 2
access_small x = grind arith

arithmetic_small : (x : ArithmeticOp) → arithmetic_number x < 2 ^ 4
arithmetic_small x = grind arith

control_small : (x : ControlOp) → control_number x < 2 ^ 4
control_small x = grind arith

condition_small : (x : Condition) → condition_number x < 2 ^ 4
condition_small x = grind arith

signed_6_small : (n : ℕ) → n < 64 → (neg_ℤ (pos 32) ≤ℤ signed_read 6 n) × (signed_read 6 n <ℤ pos 32)
signed_6_small n h =
    elim (cases_lt n 32) [
      | inl low ↦ rw (lt-ltb n 32 low) (omega (arith, ints), omega (arith, ints))
      | inr high ↦
          let near : 64 - 1 - n < 32 = omega arith in
          rw (le-ltb n 32 high) (omega (arith, ints), omega (arith, ints))
    ]

signed_8_small : (n : ℕ) → n < 256 → (neg_ℤ (pos 128) ≤ℤ signed_read 8 n) × (signed_read 8 n <ℤ pos 128)
signed_8_small n h =
    elim (cases_lt n 128) [
      | inl low ↦ rw (lt-ltb n 128 low) (omega (arith, ints), omega (arith, ints))
      | inr high ↦
          let near : 256 - 1 - n < 128 = omega arith in
          rw (le-ltb n 128 high) (omega (arith, ints), omega (arith, ints))
    ]

memory_in_range : (op : MemoryOp) (m : MPart) → AreInRange (memory_fields m)
    → AreInRange (memory_fields (used_memory op m))
memory_in_range memory.Nop m h =
    (omega arith, (omega arith, (omega arith, (omega arith, ((omega (arith, ints), omega (arith, ints)), tt)))))
memory_in_range memory.Load m h = h
memory_in_range memory.Store m h = h
memory_in_range memory.FetchAdd m h = h
memory_in_range memory.TagGet m h = (h.0, (omega arith, h.1.1))
memory_in_range memory.TagSet m h = (h.0, (omega arith, h.1.1))
memory_in_range memory.Purge m h = (h.0, (omega arith, h.1.1))

memory_rest : (op : MemoryOp) (m : MPart) → m.op ≡ op
    → used_memory (used_memory op m).op (used_memory op m) ≡ used_memory op m
memory_rest memory.Nop m e = refl
memory_rest memory.Load m e = ap (λ x. used_memory x m) e
memory_rest memory.Store m e = ap (λ x. used_memory x m) e
memory_rest memory.FetchAdd m e = ap (λ x. used_memory x m) e
memory_rest memory.TagGet m e = ap (λ x. used_memory x (used_memory memory.TagGet m)) e
memory_rest memory.TagSet m e = ap (λ x. used_memory x (used_memory memory.TagSet m)) e
memory_rest memory.Purge m e = ap (λ x. used_memory x (used_memory memory.Purge m)) e

memory_whole : (bits : ℕ)
    → AreInRange (memory_fields (memory_part_at bits))
    × (used_memory (memory_part_at bits).op (memory_part_at bits) ≡ memory_part_at bits)
memory_whole bits =
    let last = signed_6_small (bits % 2 ^ 6) (omega arith) in (
      memory_in_range (memory_raw bits).op (memory_raw bits)
          (memory_small _, (access_small _, (omega arith, (omega arith, (last, tt))))),
      memory_rest (memory_raw bits).op (memory_raw bits) refl,
    )

arithmetic_in_range : (op : ArithmeticOp) (a : APart) → AreInRange (arithmetic_fields a)
    → AreInRange (arithmetic_fields (used_arithmetic op a))
arithmetic_in_range arithmetic.Nop a h =
    (omega arith, (omega arith, (omega arith, (omega arith, (omega arith, (omega arith, tt))))))
arithmetic_in_range arithmetic.Tally a h =
    (h.0, (h.1.0, (omega arith, (h.1.1.1.0, (h.1.1.1.1.0, (omega arith, tt))))))
arithmetic_in_range _ a h = h

arithmetic_rest : (op : ArithmeticOp) (a : APart) → a.op ≡ op
    → used_arithmetic (used_arithmetic op a).op (used_arithmetic op a) ≡ used_arithmetic op a
arithmetic_rest arithmetic.Nop a e = refl
arithmetic_rest arithmetic.Tally a e = ap (λ x. used_arithmetic x (used_arithmetic arithmetic.Tally a)) e
arithmetic_rest _ a e = ap (λ x. used_arithmetic x a) e

flag_small : (b : Bool) → (if b then 1 else 0) < 2
flag_small true = omega arith
flag_small false = omega arith

arithmetic_whole : (bits : ℕ)
    → AreInRange (arithmetic_fields (arithmetic_part_at bits))
    × (used_arithmetic (arithmetic_part_at bits).op (arithmetic_part_at bits) ≡ arithmetic_part_at bits)
arithmetic_whole bits = (
  arithmetic_in_range (arithmetic_raw bits).op (arithmetic_raw bits)
      (arithmetic_small _, (flag_small _, (flag_small _, (omega arith, (omega arith, (omega arith, tt)))))),
  arithmetic_rest (arithmetic_raw bits).op (arithmetic_raw bits) refl,
)

control_in_range : (op : ControlOp) (bits : ℕ) → AreInRange (control_fields (control_part_from op bits))
control_in_range control.Nop bits = (control_small control.Nop, (omega arith, tt))
control_in_range control.Jump bits =
    (control_small control.Jump, (condition_small _, (omega arith, (omega arith, (omega arith, tt)))))
control_in_range control.Skip bits =
    let last = signed_8_small (bits % 2 ^ 8) (omega arith) in
    (control_small control.Skip, (condition_small _, (omega arith, (last, tt))))
control_in_range control.Call bits = (control_small control.Call, (omega arith, (omega arith, (omega arith, tt))))
control_in_range control.Exchange bits = (control_small control.Exchange, (omega arith, (omega arith, tt)))
control_in_range control.TargetSet bits =
    (control_small control.TargetSet, (omega arith, (omega arith, (omega arith, tt))))
control_in_range control.TargetGet bits =
    (control_small control.TargetGet, (omega arith, (omega arith, (omega arith, tt))))
control_in_range control.TrapGet bits =
    (control_small control.TrapGet, (omega arith, (omega arith, (omega arith, tt))))
control_in_range control.Reserve bits =
    (control_small control.Reserve, (omega arith, (omega arith, (omega arith, (omega arith, tt)))))
control_in_range control.Create bits = (control_small control.Create, (omega arith, (omega arith, (omega arith, tt))))
control_in_range control.Quit bits = (control_small control.Quit, (omega arith, tt))
control_in_range control.QuitKeep bits = (control_small control.QuitKeep, (omega arith, tt))
control_in_range control.Mask bits = (control_small control.Mask, (omega arith, (omega arith, tt)))

control_rest : (op : ControlOp) (bits : ℕ)
    → used_control (control_part_from op bits).op (control_part_from op bits) ≡ control_part_from op bits
control_rest control.Nop bits = refl
control_rest control.Jump bits = refl
control_rest control.Skip bits = refl
control_rest control.Call bits = refl
control_rest control.Exchange bits = refl
control_rest control.TargetSet bits = refl
control_rest control.TargetGet bits = refl
control_rest control.TrapGet bits = refl
control_rest control.Reserve bits = refl
control_rest control.Create bits = refl
control_rest control.Quit bits = refl
control_rest control.QuitKeep bits = refl
control_rest control.Mask bits = refl

wide_in_range : (op : WideOp) (word : ℕ) → AreInRange (fields (wide_from op word))
wide_in_range wide.Literal word =
    (omega arith, (omega arith, (omega arith, (omega arith, (omega arith, (omega arith, tt))))))
wide_in_range wide.LiteralHigh word =
    (omega arith, (omega arith, (omega arith, (omega arith, (omega arith, (omega arith, tt))))))
wide_in_range wide.TargetLiteral word =
    (omega arith, (omega arith, (omega arith, (omega arith, (omega arith, (omega arith, (omega arith, tt)))))))

pub record IsWhole (i : Insn) : Type 0 where
  pub in_range : AreInRange (fields i)
  pub rest : RestIsZero i

candidate_whole : (word : ℕ) → IsWhole (candidate word)
unfolding candidate
candidate_whole word =
    elim (nat_lt word (2 ^ 63)) as (λ b. IsWhole (if b then normal_at word else wide_at word)) [
      | true ↦
          let m = memory_whole (word / 2 ^ 39 % 2 ^ 21) in
          let a = arithmetic_whole (word / 2 ^ 18 % 2 ^ 21) in
          let op = control_read (word % 2 ^ 18 / 2 ^ 14 % 2 ^ 4) in
          record {
            in_range = normal_in_range _ _ _ _ (omega arith) m.0 a.0 (control_in_range op (word % 2 ^ 18));
            rest = (m.1, a.1, control_rest op (word % 2 ^ 18));
          }
      | false ↦ record { in_range = wide_in_range (wide_read (word / 2 ^ 57 % 2 ^ 3)) word; rest = tt }
    ]

Decides-apart : (x y : ℕ) → Decides (are_apart x y) (AreApart x y)
Decides-apart x y = grind (arith, nat_tests)

Decides-one_writer : (i : Insn) → Decides (has_one_writer i) (HasOneWriter i)
Decides-one_writer (insn.Wide look op reg imm) = (λ e. tt, λ h. refl)
Decides-one_writer (insn.Normal look m a c) =
    let x = memory_destination m.op m.rd in
    let y = arithmetic_destination a.op a.rd in
    let z = control_destination c.op c.rd in
    Decides-like (has_one_writer (insn.Normal look m a c))
    (λ p. record { memory_arithmetic = p.0.0; memory_control = p.0.1; arithmetic_control = p.1 })
    (λ w. ((w.memory_arithmetic, w.memory_control), w.arithmetic_control))
    (Decides-and _ _ (Decides-and _ _ (Decides-apart x y) (Decides-apart x z)) (Decides-apart y z))

kept : (keep : Bool) (x i : Insn) → kept_if keep x ≡ Some i → (keep ≡ true) × (x ≡ i)
kept true x i e = (refl, cc)
kept false x i e = cc

pub instruction-spelt : InstructionIsSpelt
unfolding instruction_in
instruction-spelt p word i =
    let test = reads_back p word (candidate word) in
    let spelling =
    Decides-and _ _ (Decides-eqb (number_of_fields (fields (candidate word))) word) (Decides-one_writer (candidate word)) in
    let has : Decides (is_in p (candidate word)) (is_in p (candidate word) ≡ true) = (λ e. e, λ e. e) in
    let tested = Decides-and _ _ spelling has in
    let whole = candidate_whole word in (
      λ e.
          let found = kept test (candidate word) i e in
          let holds = tested.0 found.0 in
          subst (λ j. SpellsIn p word j) found.1
          (Spells-from_number p word (candidate word) whole.in_range holds.0.0 whole.rest holds.0.1 holds.1),
      λ spelt.
          let same = candidate-holds p word i (Holds-from_spells p word i spelt) in
          let number_is = ap (λ j. number_of_fields (fields j)) same ∙ Spells-number p word i spelt in
          let one = subst HasOneWriter (sym same) spelt.one_writer in
          let holds : test ≡ true = tested.1 ((number_is, one), ap (is_in p) same ∙ spelt.in_profile) in
          ap (λ keep. kept_if keep (candidate word)) holds ∙ ap Some same,
    )

-- options that hold the same are the same
pub same_option : (a b : Option Insn) → ((i : Insn) → (a ≡ Some i) ↔ (b ≡ Some i)) → a ≡ b
same_option None None h = refl
same_option None (Some y) h = (h y).1 refl
same_option (Some x) b h = sym ((h x).0 refl)
