-- In which ranges operands are.
use Rattle.std.proofs.Common.{◌≡◌, ℕ, ◌+◌, ◌-◌, ◌<◌, ◌≤◌, ◌^◌, true, false, List, length, drop, Result, Ok, Err}
use Rattle.std.proofs.Common.{arith, ⊎_elim, pos, neg_ℤ, ◌≤ℤ◌, ◌<ℤ◌}
use Rattle.std.specs.Prelude.{IfOk, ⊤, slice_index, ◌==◌, nat_lt, nat_le}
use Rattle.std.proofs.lemmas.Int.{ints}
use Rattle.std.proofs.Common.{le-ltb}
use Rattle.std.proofs.lemmas.Bool.{cases_lt}
use Rattle.std.proofs.lemmas.Bool.Decides.{leb_tells}
use Rattle.std.specs.Option.{ok_or}
use Rattle.insn_word.specs.Fields.{IsFieldInRange, signed}
use Rattle.text_parts.specs.Reading.{are_digits, number_of_text}
use Rattle.asm_line.specs.Text.{is_name}
use Rattle.asm_line.specs.Faults.{map_ok, ◌>>=◌}
use Rattle.asm_line.specs.Numbers.{within, number_within, at_least_one, count_within}
use Rattle.asm_line.specs.Numbers.{signed_within, has_minus}
use Rattle.asm_line.specs.Operands.{number_after_letter, is_register, register, is_target, target, Places}
use Rattle.asm_line.specs.Operands.{label_value, value_within}
use Rattle.asm_line.specs.Operands.{distance, offset, displacement, source_of, source_number}
use Rattle.asm_line.specs.Parts.{immediate}
use Rattle.asm_line.specs.declared.fault.Fault.{Fault}
use Rattle.asm_line.specs.declared.fault.Fault.TheVariants as fault
use Rattle.asm_line.specs.declared.operand.Source.TheVariants as source
use Rattle.asm_line.proofs.OkRules.{ok_map, ok_then, ok_any, ok_if, ok_either, and_left, and_right}

pub below_bound : (n most : ℕ) → nat_lt n most ≡ true → n < most
below_bound n most e = ⊎_elim (λ h. h) (λ h. absurd (contrary (le-ltb n most h))) (cases_lt n most)
  where
    contrary : nat_lt n most ≡ false → ⊥
    contrary h = cc

within_range : (most n : ℕ) → IfOk (within most n) (λ m. m ≤ most)
within_range most n = ⊎_elim (λ h. rw h.0 h.1) (λ h. rw h.0 tt) (leb_tells n most)

pub number_within_range : (most : ℕ) (text : List ℕ) → IfOk (number_within most text) (λ n. n ≤ most)
unfolding number_within
number_within_range most text =
    let number = ok_or (number_of_text text) fault.Operand in
    ok_then (within most) (λ _. ⊤) (λ n. n ≤ most) number (λ n _. within_range most n) (ok_any number)

pub count_within_range : (most : ℕ) (text : List ℕ) → IfOk (count_within most text) (λ n. (1 ≤ n) × (n ≤ most))
unfolding count_within
count_within_range most text =
    ok_then at_least_one (λ n. n ≤ most) (λ n. (1 ≤ n) × (n ≤ most)) (number_within most text)
    (λ n h. ok_if (nat_lt 0 n) n fault.Range (λ n. (1 ≤ n) × (n ≤ most)) (λ e. (below_bound 0 n e, h)))
    (number_within_range most text)

pub register_range : (text : List ℕ) → IfOk (register text) (λ n. n < 32)
unfolding register
register_range text = ok_if (is_register text) (number_after_letter text) fault.Operand (λ n. n < 32) (λ e.
    let rest = and_right (are_digits 10 (drop 1 text)) _ (and_right (slice_index text 0 == 114) _ e) in
    below_bound (number_after_letter text) 32 (and_left (nat_lt (number_after_letter text) 32) _ rest))

pub target_range : (text : List ℕ) → IfOk (target text) (λ n. n < 8)
unfolding target
target_range text = ok_if (is_target text) (slice_index text 1 - 48) fault.Operand (λ n. n < 8) (λ e.
    let rest = and_right (length text == 2) _ (and_right (slice_index text 0 == 116) _ e) in
    let last = below_bound (slice_index text 1) 56 (and_right (nat_le 48 (slice_index text 1)) _ rest) in
    omega (arith, last))

pub immediate_range : (places : Places) (text : List ℕ) → IfOk (immediate places text) (λ n. n < 2 ^ 32)
unfolding immediate value_within
immediate_range places text =
    ok_either (is_name text) (label_value (places text) >>= within (2 ^ 32 - 1)) (number_within (2 ^ 32 - 1) text)
    (λ n. n < 2 ^ 32)
    (ok_then (within (2 ^ 32 - 1)) (λ _. ⊤) (λ n. n < 2 ^ 32) (label_value (places text))
    (λ n _. less (within (2 ^ 32 - 1) n) (within_range (2 ^ 32 - 1) n)) (ok_any (label_value (places text))))
    (less (number_within (2 ^ 32 - 1) text) (number_within_range (2 ^ 32 - 1) text))
  where
    less : (r : Result ℕ Fault) → IfOk r (λ n. n ≤ 2 ^ 32 - 1) → IfOk r (λ n. n < 2 ^ 32)
    less (Ok n) h = omega (arith, h)
    less (Err e) h = tt

signed_range : (least most : ℕ) (text : List ℕ)
    → IfOk (signed_within least most text) (λ z. (neg_ℤ (pos least) ≤ℤ z) × (z <ℤ pos (most + 1)))
unfolding signed_within
signed_range least most text =
    ok_either (has_minus text) (map_ok (λ n. neg_ℤ (pos n)) (number_within least (drop 1 text)))
    (map_ok pos (number_within most text))
    (λ z. (neg_ℤ (pos least) ≤ℤ z) × (z <ℤ pos (most + 1)))
    (ok_map (λ n. neg_ℤ (pos n)) (λ n. n ≤ least) (λ z. (neg_ℤ (pos least) ≤ℤ z) × (z <ℤ pos (most + 1)))
    (number_within least (drop 1 text))
    (λ n h. (omega (arith, ints, h), omega (arith, ints, h))) (number_within_range least (drop 1 text)))
    (ok_map pos (λ n. n ≤ most) (λ z. (neg_ℤ (pos least) ≤ℤ z) × (z <ℤ pos (most + 1))) (number_within most text)
    (λ n h. (omega (arith, ints, h), omega (arith, ints, h))) (number_within_range most text))

pub displacement_range : (text : List ℕ) → IfOk (displacement text) (λ z. IsFieldInRange (signed 6 z))
displacement_range text = signed_range 32 31 text

distance_range : (here v : ℕ) → IfOk (distance here v) (λ z. IsFieldInRange (signed 8 z))
unfolding distance
distance_range here v = ok_either (nat_lt here v) _ _ (λ z. IsFieldInRange (signed 8 z))
    (ok_if (nat_lt (v - here) 129) (pos (v - here - 1)) fault.Range (λ z. IsFieldInRange (signed 8 z)) (λ e.
    let h = below_bound (v - here) 129 e in (omega (arith, ints, h), omega (arith, ints, h))))
    (ok_if (nat_lt (here - v) 128) (neg_ℤ (pos (here + 1 - v))) fault.Range (λ z. IsFieldInRange (signed 8 z)) (λ e.
    let h = below_bound (here - v) 128 e in (omega (arith, ints, h), omega (arith, ints, h))))

pub offset_range : (places : Places) (here : ℕ) (text : List ℕ)
    → IfOk (offset places here text) (λ z. IsFieldInRange (signed 8 z))
unfolding offset
offset_range places here text =
    ok_either (is_name text) (label_value (places text) >>= distance here) (signed_within 128 127 text)
    (λ z. IsFieldInRange (signed 8 z))
    (ok_then (distance here) (λ _. ⊤) (λ z. IsFieldInRange (signed 8 z)) (label_value (places text))
    (λ v _. distance_range here v) (ok_any (label_value (places text))))
    (signed_range 128 127 text)

pub source_range : (text : List ℕ) → IfOk (source_of text) (λ b. source_number b < 32)
unfolding source_of
source_range text =
    ok_either (slice_index text 0 == 114) (map_ok source.Register (register text))
    (map_ok source.Number (number_within 31 text)) (λ b. source_number b < 32)
    (ok_map source.Register (λ n. n < 32) (λ b. source_number b < 32) (register text) (λ n h. h)
    (register_range text))
    (ok_map source.Number (λ n. n ≤ 31) (λ b. source_number b < 32) (number_within 31 text) (λ n h. omega (arith, h))
    (number_within_range 31 text))
