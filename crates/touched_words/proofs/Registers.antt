-- The registers of a stream, as they are shown one by one.
use Rattle.std.proofs.Common.{◌≡◌, ℕ, ◌<◌, ◌≤◌, ◌⊎◌, inl, inr, refl, sym, ◌∙◌, subst, arith, List, length, Option, Some, None, slice_get}
use Rattle.std.specs.Prelude.{IsSome}
use Rattle.std.proofs.lemmas.Bool.{cases_lt}
use Rattle.std.proofs.lemmas.List.{get_or_past}
use Rattle.std.proofs.lemmas.Option.{slice_get-get_or, slice_get_past}
use Rattle.stream_core.specs.Registers.{register_at}
use Rattle.touched_words.specs.declared.few.Few.{Few}
use Rattle.touched_words.specs.TouchTables.{IsOneOf, known_by, HoldsKnown}

none_there : IsSome {T = ℕ} None → ⊥
none_there e = cc

-- there is register 31, and no register 32
pub full : (rs : List ℕ) (a b : Option ℕ) → a ≡ slice_get rs 31 → IsSome a → b ≡ slice_get rs 32 → (IsSome b → ⊥)
    → length rs ≡ 32
full rs a b last some past none = by (cases_lt 31 (length rs)) (cases_lt 32 (length rs)) where
  by : (31 < length rs) ⊎ (length rs ≤ 31) → (32 < length rs) ⊎ (length rs ≤ 32) → length rs ≡ 32
  by (inr few) more = absurd (none_there (subst IsSome (last ∙ slice_get_past rs 31 few) some))
  by (inl within) (inl many) = absurd (none (subst IsSome (sym (past ∙ slice_get-get_or rs 32 0 many)) refl))
  by (inl within) (inr few) = omega (arith, within, few)

-- where each register that a row knows holds what is known, all do
pub all_held : (row : List (Option Few)) (rs : List ℕ) (k : ℕ) → length rs ≡ 32 → length row ≤ k
    → ((r : ℕ) (few : Few) → r < k → known_by row r ≡ Some few → IsOneOf few (register_at rs r)) → HoldsKnown row rs
all_held row rs k size all each = record {
  size = size;
  each = λ r few e. elim (cases_lt r k) [
    | inl below ↦ each r few below e
    | inr past ↦
        let none : None ≡ Some few = sym (get_or_past row r None (omega (arith, past, all))) ∙ e in
        cc
  ];
}
