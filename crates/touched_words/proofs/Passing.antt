-- Requests that are met at no word.
use Rattle.std.proofs.Common.{◌≡◌, ◌≢◌, ℕ, ◌<◌, ◌≤◌, ◌⊎◌, inl, inr, Bool, true, false, sym, ap, ◌∙◌, arith, List, length, Some, None, slice_get}
use Rattle.std.specs.Prelude.{IsTrue}
use Rattle.std.proofs.lemmas.Bool.{cases_lt}
use Rattle.std.proofs.lemmas.Option.{slice_get_past}
use Rattle.touched_words.specs.TouchTables.{is_marked}

-- Where none of the words is met that were looked at, none is. The rows are these, by other names.
module _ (words : List ℕ) (touches ts changes cs uses us : List Bool) (asked a k : ℕ) (changing may quiet : Bool)
    (same_touches : touches ≡ ts) (same_changes : changes ≡ cs) (same_uses : uses ≡ us) (same_word : asked ≡ a)
    (same_change : changing ≡ may)
    (all : length words ≤ k)
    (each : (n : ℕ) → n < k → IsTrue (is_marked touches n)
    → (slice_get words n ≢ Some asked)
    ⊎ (((changing ≡ false) × (is_marked changes n ≡ false)) ⊎ ((quiet ≡ true) × (is_marked uses n ≡ false)))) where
  abbrev Shared : ℕ → Type 0
  Shared n = ((may ≡ false) × (is_marked cs n ≡ false)) ⊎ ((quiet ≡ true) × (is_marked us n ≡ false))

  below_passed : (n : ℕ)
      → (slice_get words n ≢ Some asked)
      ⊎ (((changing ≡ false) × (is_marked changes n ≡ false)) ⊎ ((quiet ≡ true) × (is_marked uses n ≡ false)))
      → (slice_get words n ≢ Some a) ⊎ Shared n
  below_passed n (inl apart) = inl (λ e. apart (e ∙ ap (λ w. Some w) (sym same_word)))
  below_passed n (inr (inl read)) =
      inr (inl (sym same_change ∙ read.0, ap (λ row. is_marked row n) (sym same_changes) ∙ read.1))
  below_passed n (inr (inr added)) = inr (inr (added.0, ap (λ row. is_marked row n) (sym same_uses) ∙ added.1))

  none_past : (n : ℕ) → length words ≤ n → slice_get words n ≢ Some a
  none_past n past e = let none : None ≡ Some a = sym (slice_get_past words n past) ∙ e in cc

  pub passed_all : (n : ℕ) → IsTrue (is_marked ts n)
      → (slice_get words n ≢ Some a) ⊎ Shared n
  passed_all n marked = elim (cases_lt n k) [
    | inl below ↦
        below_passed n (each n below (ap (λ row. is_marked row n) same_touches ∙ marked))
    | inr past ↦ inl (none_past n (omega (arith, past, all)))
  ]
