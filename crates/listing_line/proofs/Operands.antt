-- Printed operands are read as what they were printed from.
use Rattle.std.proofs.Common.{◌≡◌, ℕ, ◌<◌, Bool, true, false, refl, sym, ap, arith, true≢false}
use Rattle.std.specs.Prelude.{ℤ, pos, negsuc, neg_ℤ, ◌≤ℤ◌, ◌<ℤ◌, ◌==◌, Result, Ok, Err}
use Rattle.std.specs.Ordering.{int_eq}
use Rattle.std.specs.Fmt.{decimal, signed_decimal, digits}
use Rattle.std.proofs.lemmas.Bool.{eqb-true, agree_below_at}
use Rattle.std.proofs.lemmas.Bool.Decides.{Decides-int_eq}
use Rattle.std.proofs.lemmas.Int.{ints}
use Rattle.insn_word.specs.declared.operations.Condition.{Condition}
use Rattle.insn_word.specs.declared.operations.Condition.TheVariants as condition
use Rattle.asm_line.specs.Text.{is_name}
use Rattle.asm_line.specs.Names.{condition_name}
use Rattle.asm_line.specs.Heads.{condition_named}
use Rattle.text_parts.specs.Reading.{number_of_digits, number_of_text}
use Rattle.asm_line.specs.Numbers.{number_within, signed_within}
use Rattle.asm_line.specs.Operands.{Places, register, target, offset, displacement, source_of, condition}
use Rattle.asm_line.specs.declared.fault.Fault.{Fault}
use Rattle.asm_line.specs.declared.operand.Source.{Source}
use Rattle.asm_line.specs.declared.operand.Source.TheVariants as source
use Rattle.listing_line.specs.WordText.{register_text, target_text, source_text}

-- a result that is this number
abbrev is_answer : ℕ → Result ℕ Fault → Bool
is_answer n (Ok m) = m == n
is_answer n (Err e) = false

answered : (n : ℕ) (r : Result ℕ Fault) → is_answer n r ≡ true → r ≡ Ok n
answered n (Ok m) e = ap Ok (eqb-true m n e)
answered n (Err f) e = absurd (true≢false (sym e))

abbrev is_int_answer : ℤ → Result ℤ Fault → Bool
is_int_answer z (Ok y) = int_eq y z
is_int_answer z (Err e) = false

int_answered : (z : ℤ) (r : Result ℤ Fault) → is_int_answer z r ≡ true → r ≡ Ok z
int_answered z (Ok y) e = ap Ok ((Decides-int_eq y z).0 e)
int_answered z (Err f) e = absurd (true≢false (sym e))

-- The ranges are small, so each number is looked at.

pub register-text : (n : ℕ) → n < 32 → register (register_text n) ≡ Ok n
unfolding register digits
register-text n h =
    answered n (register (register_text n))
    (agree_below_at (λ k. is_answer k (register (register_text k))) (λ _. true) 32 n refl h)

pub target-text : (n : ℕ) → n < 8 → target (target_text n) ≡ Ok n
unfolding target digits
target-text n h =
    answered n (target (target_text n))
    (agree_below_at (λ k. is_answer k (target (target_text k))) (λ _. true) 8 n refl h)

pub code-text : (n : ℕ) → n < 4 → number_within 3 (decimal n) ≡ Ok n
unfolding number_within number_of_text number_of_digits digits
code-text n h =
    answered n (number_within 3 (decimal n))
    (agree_below_at (λ k. is_answer k (number_within 3 (decimal k))) (λ _. true) 4 n refl h)

-- the mask of MASK, and the lookahead
pub three_bits-text : (n : ℕ) → n < 8 → number_within 7 (decimal n) ≡ Ok n
unfolding number_within number_of_text number_of_digits digits
three_bits-text n h =
    answered n (number_within 7 (decimal n))
    (agree_below_at (λ k. is_answer k (number_within 7 (decimal k))) (λ _. true) 8 n refl h)

-- A second operand.

abbrev source_from : Bool → ℕ → Source
source_from true n = source.Number n
source_from false n = source.Register n

abbrev is_source : Bool → ℕ → Result Source Fault → Bool
is_source true n (Ok (source.Number m)) = m == n
is_source false n (Ok (source.Register m)) = m == n
is_source _ n _ = false

source_answered : (b : Bool) (n : ℕ) (r : Result Source Fault) → is_source b n r ≡ true → r ≡ Ok (source_from b n)
source_answered true n (Ok (source.Number m)) e = ap (λ k. Ok (source.Number k)) (eqb-true m n e)
source_answered true n (Ok (source.Register m)) e = absurd (true≢false (sym e))
source_answered true n (Err f) e = absurd (true≢false (sym e))
source_answered false n (Ok (source.Number m)) e = absurd (true≢false (sym e))
source_answered false n (Ok (source.Register m)) e = ap (λ k. Ok (source.Register k)) (eqb-true m n e)
source_answered false n (Err f) e = absurd (true≢false (sym e))

pub source-text : (b : Bool) (n : ℕ) → n < 32 → source_of (source_text b n) ≡ Ok (source_from b n)
unfolding source_of register number_within number_of_text number_of_digits digits
source-text true n h =
    source_answered true n (source_of (source_text true n))
    (agree_below_at (λ k. is_source true k (source_of (source_text true k))) (λ _. true) 32 n refl h)
source-text false n h =
    source_answered false n (source_of (source_text false n))
    (agree_below_at (λ k. is_source false k (source_of (source_text false k))) (λ _. true) 32 n refl h)

-- Signed numbers.

pub displacement-text : (z : ℤ) → neg_ℤ (pos 32) ≤ℤ z → z <ℤ pos 32 → displacement (signed_decimal z) ≡ Ok z
unfolding signed_within number_within number_of_text number_of_digits digits
displacement-text (pos n) low high =
    int_answered (pos n) (displacement (signed_decimal (pos n)))
    (agree_below_at (λ k. is_int_answer (pos k) (displacement (signed_decimal (pos k)))) (λ _. true) 32 n refl
    (omega (arith, ints)))
displacement-text (negsuc n) low high =
    int_answered (negsuc n) (displacement (signed_decimal (negsuc n)))
    (agree_below_at (λ k. is_int_answer (negsuc k) (displacement (signed_decimal (negsuc k)))) (λ _. true) 32 n refl
    (omega (arith, ints)))

pub offset-text : (places : Places) (here : ℕ) (z : ℤ) → neg_ℤ (pos 128) ≤ℤ z → z <ℤ pos 128
    → offset places here (signed_decimal z) ≡ Ok z
unfolding offset is_name signed_within number_within number_of_text number_of_digits digits
offset-text places here (pos n) low high =
    int_answered (pos n) (offset places here (signed_decimal (pos n)))
    (agree_below_at (λ k. is_int_answer (pos k) (offset places here (signed_decimal (pos k)))) (λ _. true) 128 n refl
    (omega (arith, ints)))
offset-text places here (negsuc n) low high =
    int_answered (negsuc n) (offset places here (signed_decimal (negsuc n)))
    (agree_below_at (λ k. is_int_answer (negsuc k) (offset places here (signed_decimal (negsuc k)))) (λ _. true) 128 n
    refl (omega (arith, ints)))

-- Conditions.

pub condition-name : (c : Condition) → condition (condition_name c) ≡ Ok c
unfolding condition condition_named
condition-name condition.Always = refl
condition-name condition.Equal = refl
condition-name condition.NotEqual = refl
condition-name condition.Less = refl
condition-name condition.GreaterEqual = refl
condition-name condition.LessEqual = refl
condition-name condition.Greater = refl
condition-name condition.LessUnsigned = refl
condition-name condition.GreaterEqualUnsigned = refl
condition-name condition.LessEqualUnsigned = refl
condition-name condition.GreaterUnsigned = refl
condition-name condition.Negative = refl
condition-name condition.Positive = refl
condition-name condition.Overflow = refl
condition-name condition.NoOverflow = refl
