-- The numbers of a line, field by field.
use Rattle.std.proofs.Common.{◌≡◌, ℕ, ◌+◌, ◌<◌, true, false, List, [], ◌∷◌, length, drop, refl, sym, ap, ◌∙◌}
use Rattle.std.proofs.Common.{Option, Some, None, ◌==◌, nat_lt, inl, inr, get_or, ⊎_elim}
use Rattle.std.proofs.lemmas.Bool.{cases_Bool, cases_lt, eqb-true}
use Rattle.std.proofs.lemmas.List.Splits.{slice_split_first}
use Rattle.std.proofs.lemmas.List.Folds.{list_all_at}
use Rattle.std.proofs.lemmas.List.Sums.{passes_at_first}
use Rattle.std.specs.Char.{is_digit}
use Rattle.std.specs.List.{position_or_len}
use Rattle.std.specs.Option.{option_map}
use Rattle.text_parts.specs.Reading.{number_of_digits, all_in_base}
use Rattle.text_parts.specs.Numbers.{number_from}
use Rattle.text_parts.specs.declared.numbers.Number.{Number}
use Rattle.trace_text.specs.ScheduleLines.{fields_of, decimal_number, values, values_in, values_of}
use Rattle.trace_text.specs.Fields.{times_in}
use Rattle.trace_text.specs.LineNumbers.{numbers_from}
use Rattle.text_parts.specs.Pieces.{rest_pieces}
use Rattle.text_parts.proofs.Pieces.{pieces_cut, one_part}

values-none_last : (p s : Option ℕ) → values p s None ≡ None
values-none_last None s = refl
values-none_last (Some p) None = refl
values-none_last (Some p) (Some s) = refl

values-none_middle : (p n : Option ℕ) → values p None n ≡ None
values-none_middle None n = refl
values-none_middle (Some p) n = refl

-- a text with a space is no number
no_number : (digits : List ℕ) → all_in_base 10 digits ≡ false → decimal_number digits ≡ None
unfolding number_of_digits
no_number digits e = elim (cases_Bool (nat_lt 0 (length digits))) [ inl h ↦ rw (h, e) refl | inr h ↦ rw h refl ]

no_number-space : (digits : List ℕ) → position_or_len (λ b. b == 32) digits < length digits
    → decimal_number digits ≡ None
no_number-space digits h =
    let at : (get_or digits (position_or_len (λ b. b == 32) digits) 0 == 32) ≡ true =
    passes_at_first (λ b. b == 32) digits 0 h in
    let is : get_or digits (position_or_len (λ b. b == 32) digits) 0 ≡ 32 = eqb-true _ _ at in
    no_number digits (list_all_at (λ b. is_digit b 10) digits (position_or_len (λ b. b == 32) digits) 0 h
    (rw is refl))

third-found : (p s digits field : List ℕ) (fields : List (List ℕ)) → decimal_number digits ≡ None
    → fields_of digits ≡ field ∷ fields
    → (more : List ℕ) (others : List (List ℕ)) → fields ≡ more ∷ others
    → values_in (p ∷ s ∷ fields_of digits) ≡ values (decimal_number p) (decimal_number s) (decimal_number digits)
third-found p s digits field fields none e more others e' =
    ap (λ fs. values_in (p ∷ s ∷ fs)) (e ∙ ap (λ fs. field ∷ fs) e')
    ∙ sym (ap (values (decimal_number p) (decimal_number s)) none
    ∙ values-none_last (decimal_number p) (decimal_number s))

third : (p s digits : List ℕ)
    → values_in (p ∷ s ∷ fields_of digits) ≡ values (decimal_number p) (decimal_number s) (decimal_number digits)
third p s digits = ⊎_elim
    (λ h. third-found p s digits _ _ (no_number-space digits h) (slice_split_first (λ b. b == 32) digits 0 h) _ _
    (pieces_cut 32 (drop (position_or_len (λ b. b == 32) digits + 1) digits)))
    (λ h. ap (λ fs. values_in (p ∷ s ∷ fs)) (one_part 32 digits h))
    (cases_lt (position_or_len (λ b. b == 32) digits) (length digits))

-- a line of two fields, with a third or not
values_of-two : (line rest p s : List ℕ) (third_field : Option (List ℕ)) → fields_of line ≡ p ∷ fields_of rest
    → fields_of rest ≡ s ∷ rest_pieces 32 third_field
    → values_of line ≡ values (decimal_number p) (decimal_number s) (times_in third_field)
unfolding values_of
values_of-two line rest p s None e e' = ap values_in (e ∙ ap (λ fs. p ∷ fs) e')
values_of-two line rest p s (Some digits) e e' = ap values_in (e ∙ ap (λ fs. p ∷ fs) e') ∙ third p s digits

-- a line of one field
pub values_of-one : (line p : List ℕ) → fields_of line ≡ p ∷ [] → values_of line ≡ None
unfolding values_of
values_of-one line p e = ap values_in e

none_from : {A B : Type 0} (f : A → B) (o : Option A) → option_map f o ≡ None → o ≡ None
none_from f None e = refl
none_from f (Some x) e = cc

three_numbers : (p s n : Option ℕ) (x y z : Number) → option_map number_from p ≡ Some x
    → option_map number_from s ≡ Some y → option_map number_from n ≡ Some z
    → option_map numbers_from (values p s n) ≡ Some (record { processor = x; stream = y; times = z })
three_numbers None s n x y z a b c = cc
three_numbers (Some p) None n x y z a b c = cc
three_numbers (Some p) (Some s) None x y z a b c = cc
three_numbers (Some p) (Some s) (Some n) x y z a b c = cc

-- What is read of a line of two fields, with a third or not.

module _ (line rest p s : List ℕ) (third_field : Option (List ℕ)) (first : fields_of line ≡ p ∷ fields_of rest)
    (second : fields_of rest ≡ s ∷ rest_pieces 32 third_field) where
  two : option_map numbers_from (values_of line)
      ≡ option_map numbers_from (values (decimal_number p) (decimal_number s) (times_in third_field))
  two = ap (option_map numbers_from) (values_of-two line rest p s third_field first second)

  pub no_processor : option_map number_from (decimal_number p) ≡ None
      → option_map numbers_from (values_of line) ≡ None
  no_processor none = two ∙ ap (λ q. option_map numbers_from (values q (decimal_number s) (times_in third_field)))
      (none_from number_from (decimal_number p) none)

  pub no_stream : option_map number_from (decimal_number s) ≡ None → option_map numbers_from (values_of line) ≡ None
  no_stream none =
      two ∙ ap (λ q. option_map numbers_from (values (decimal_number p) q (times_in third_field)))
      (none_from number_from (decimal_number s) none)
      ∙ ap (option_map numbers_from) (values-none_middle (decimal_number p) (times_in third_field))

  pub no_times : option_map number_from (times_in third_field) ≡ None
      → option_map numbers_from (values_of line) ≡ None
  no_times none =
      two ∙ ap (λ q. option_map numbers_from (values (decimal_number p) (decimal_number s) q))
      (none_from number_from (times_in third_field) none)
      ∙ ap (option_map numbers_from) (values-none_last (decimal_number p) (decimal_number s))

  pub all_numbers : (x y z : Number) → option_map number_from (decimal_number p) ≡ Some x
      → option_map number_from (decimal_number s) ≡ Some y
      → option_map number_from (times_in third_field) ≡ Some z
      → option_map numbers_from (values_of line) ≡ Some (record { processor = x; stream = y; times = z })
  all_numbers x y z a b c = two ∙ three_numbers (decimal_number p) (decimal_number s)
      (times_in third_field) x y z a b c
