-- A written line is read as its run.
use Rattle.std.proofs.Common.{◌≡◌, ℕ, ◌^◌, ◌<◌, false, List, [], ◌∷◌, ◌++◌, refl, ap, ◌∙◌, arith}
use Rattle.std.proofs.Common.{Some, ◌==◌, ne_eqb, append_assoc, subst}
use Rattle.std.proofs.lemmas.Fmt.{decimal_is_IsNumeral}
use Rattle.std.proofs.lemmas.List.Elements.{All-cons}
use Rattle.std.proofs.lemmas.List.Splits.{slice_split_none, slice_split_at}
use Rattle.std.specs.Char.{digit_value}
use Rattle.std.specs.Fmt.{decimal}
use Rattle.std.specs.List.{All, onto_first}
use Rattle.std.specs.Str.Parse.{AllDigits}
use Rattle.text_parts.specs.Laws.{DecimalReadsBack}
use Rattle.text_parts.specs.Lines.{lines_of}
use Rattle.trace_text.specs.ScheduleLines.{LineValues, fields_of, decimal_number, values, values_in, values_of}
use Rattle.text_parts.specs.Runs.{Run}
use Rattle.processor.specs.declared.steps.Step.{Step}
use Rattle.trace_text.specs.Runs.{schedule_line}

-- digits are neither spaces nor line ends

other_byte : (c b : ℕ) → (digit_value c < 10 → ⊥) → digit_value b < 10 → (b == c) ≡ false
other_byte c b other small =
    let IsDigit : ℕ → Type 0 = λ n. digit_value n < 10 in ne_eqb b c (λ e. other (subst IsDigit e small))

digits-lack : (c : ℕ) → (digit_value c < 10 → ⊥) → (ds : List ℕ) → AllDigits 10 ds → All (λ b. (b == c) ≡ false) ds
digits-lack c other [] all = λ k d h. absurd (omega arith)
digits-lack c other (b ∷ bs) all =
    All-cons (λ x. (x == c) ≡ false) b bs (other_byte c b other all.0) (digits-lack c other bs all.1)

space-no_digit : digit_value 32 < 10 → ⊥
space-no_digit h = omega arith

end-no_digit : digit_value 10 < 10 → ⊥
end-no_digit h = omega arith

lacks-space : (n : ℕ) → n < 2 ^ 64 → All (λ b. (b == 32) ≡ false) (decimal n)
lacks-space n small = digits-lack 32 space-no_digit (decimal n) (decimal_is_IsNumeral n small).0.1

-- the text of a line, without its end
abbrev pub body : Run Step → List ℕ
body r = decimal r.thing.p ++ 32 ∷ (decimal r.thing.s ++ 32 ∷ decimal r.times)

fields-body : (r : Run Step) → r.thing.p < 2 ^ 64 → r.thing.s < 2 ^ 64 → r.times < 2 ^ 64
    → fields_of (body r) ≡ decimal r.thing.p ∷ decimal r.thing.s ∷ decimal r.times ∷ []
fields-body r p s n =
    slice_split_at (λ b. b == 32) (decimal r.thing.p) 32 (decimal r.thing.s ++ 32 ∷ decimal r.times)
    (lacks-space r.thing.p p) refl
    ∙ ap (λ fs. decimal r.thing.p ∷ fs)
    (slice_split_at (λ b. b == 32) (decimal r.thing.s) 32 (decimal r.times) (lacks-space r.thing.s s) refl
    ∙ ap (λ fs. decimal r.thing.s ∷ fs) (slice_split_none (λ b. b == 32) (decimal r.times) (lacks-space r.times n)))

abbrev pub said_by : Run Step → LineValues
said_by r = record { processor = r.thing.p; stream = r.thing.s; times = r.times }

pub values-body : DecimalReadsBack → (r : Run Step) → r.thing.p < 2 ^ 64 → r.thing.s < 2 ^ 64 → r.times < 2 ^ 64
    → values_of (body r) ≡ Some (said_by r)
unfolding values_of
values-body back r p s n =
    ap values_in (fields-body r p s n)
    ∙ ap (λ o. values o (decimal_number (decimal r.thing.s)) (decimal_number (decimal r.times))) (back r.thing.p p)
    ∙ ap (λ o. values (Some r.thing.p) o (decimal_number (decimal r.times))) (back r.thing.s s)
    ∙ ap (λ o. values (Some r.thing.p) (Some r.thing.s) o) (back r.times n)

-- Lines one after another.

abbrev Lacks : List ℕ → Type 0
Lacks [] = Unit {0}
Lacks (b ∷ bs) = ((b == 10) ≡ false) × Lacks bs

lacks-append : (xs ys : List ℕ) → Lacks xs → Lacks ys → Lacks (xs ++ ys)
lacks-append [] ys l m = m
lacks-append (x ∷ xs) ys l m = (l.0, lacks-append xs ys l.1 m)

lacks-digits : (ds : List ℕ) → AllDigits 10 ds → Lacks ds
lacks-digits [] all = tt
lacks-digits (b ∷ bs) all = (other_byte 10 b end-no_digit all.0, lacks-digits bs all.1)

lacks-decimal : (n : ℕ) → n < 2 ^ 64 → Lacks (decimal n)
lacks-decimal n small = lacks-digits (decimal n) (decimal_is_IsNumeral n small).0.1

lacks-body : (r : Run Step) → r.thing.p < 2 ^ 64 → r.thing.s < 2 ^ 64 → r.times < 2 ^ 64 → Lacks (body r)
lacks-body r p s n =
    lacks-append (decimal r.thing.p) (32 ∷ (decimal r.thing.s ++ 32 ∷ decimal r.times)) (lacks-decimal r.thing.p p) (
      refl,
      lacks-append (decimal r.thing.s) (32 ∷ decimal r.times) (lacks-decimal r.thing.s s) (
        refl,
        lacks-decimal r.times n,
      ),
    )

lines-before : (line rest : List ℕ) → Lacks line → lines_of (line ++ 10 ∷ rest) ≡ line ∷ lines_of rest
unfolding lines_of
lines-before [] rest l = refl
lines-before (b ∷ bs) rest l = rw l.0 (ap (onto_first b) (lines-before bs rest l.1))

line-body : (r : Run Step) (rest : List ℕ) → schedule_line r ++ rest ≡ body r ++ 10 ∷ rest
unfolding schedule_line
line-body r rest = simp append_assoc

pub lines-run : (r : Run Step) (rest : List ℕ) → r.thing.p < 2 ^ 64 → r.thing.s < 2 ^ 64 → r.times < 2 ^ 64
    → lines_of (schedule_line r ++ rest) ≡ body r ∷ lines_of rest
lines-run r rest p s n = ap lines_of (line-body r rest) ∙ lines-before (body r) rest (lacks-body r p s n)
