use Rattle.std.proofs.Common.{◌≡◌, ◌<◌, ◌≤◌, ◌+◌, ◌⊎◌, ℕ, List, Option, Some, None, length, get_or, set, get_or-set_same, get_or-set_other, inl, inr, subst, sym, ap, ◌∙◌, arith, refl, slice_get, []}
use Rattle.std.proofs.lemmas.Option.{slice_get-get_or, get_or_from_slice_get, same_Some}
use Rattle.std.proofs.lemmas.Bool.{cases_eq}
use Rattle.class_results.specs.declared.merging.KeptPlace.{KeptPlace}
use Rattle.class_results.specs.Merging.{IsOf, IsFoundAt, AreSame, SaysSame, AgreesWith, AreAlike, DoDiffer}

-- What stands for a kept result past the end of a list.
abbrev pub past_end : KeptPlace
past_end = record { place = 0; basis = record { submission = []; cases = []; options = [] }; row = [] }

-- The kept result at an index is of its own place.
pub is_of : (kept : List KeptPlace) (m : ℕ) (d : KeptPlace) → m < length kept → IsOf kept m (get_or kept m d).place
is_of kept m d lt = (get_or kept m d, slice_get-get_or kept m d lt, refl)

-- Where no kept result below an index is of a place, and that at the index is not, none up to it is.
none_more : (kept : List KeptPlace) (m p : ℕ) (d : KeptPlace) → ((get_or kept m d).place ≡ p → ⊥) → ((i : ℕ) → i < m → IsOf kept i p → ⊥) → (i : ℕ) → i < m + 1 → IsOf kept i p → (i ≡ m) ⊎ (i ≡ m → ⊥) → ⊥
none_more kept m p d ne h i lt is (inl e) = ne (ap (λ (one : KeptPlace). one.place) (sym (ap (λ k. get_or kept k d) e) ∙ get_or_from_slice_get kept i is.0 d is.1) ∙ is.2)
none_more kept m p d ne h i lt is (inr other) = h i (omega (arith, lt, other)) is

-- A kept result of another place changes nothing.
pub other_place : (kept : List KeptPlace) (m p : ℕ) (d : KeptPlace) (o : Option ℕ) → ((get_or kept m d).place ≡ p → ⊥) → IsFoundAt kept m p o → IsFoundAt kept (m + 1) p o
other_place kept m p d (Some i) ne h = (omega (arith, h.0), h.1)
other_place kept m p d None ne h = λ i lt is. none_more kept m p d ne h i lt is (cases_eq i m)

-- A table in which the next kept result has been put in its place.
pub put_in : (kept : List KeptPlace) (found : List (Option ℕ)) (m count : ℕ) (d : KeptPlace) → m < length kept → length found ≡ count → ((p : ℕ) → p < count → IsFoundAt kept m p (get_or found p None)) → (p : ℕ) → p < count → ((get_or kept m d).place ≡ p) ⊎ ((get_or kept m d).place ≡ p → ⊥) → IsFoundAt kept (m + 1) p (get_or (set found (get_or kept m d).place (Some m)) p None)
put_in kept found m count d lt long h p below (inl e) =
    let within : (get_or kept m d).place < length found = omega (arith, e, long, below) in
    let here : get_or (set found (get_or kept m d).place (Some m)) p None ≡ Some m = subst (λ k. get_or (set found (get_or kept m d).place (Some m)) k None ≡ Some m) e (get_or-set_same found (get_or kept m d).place (Some m) None within) in
    subst (λ o. IsFoundAt kept (m + 1) p o) (sym here) (omega arith, subst (λ k. IsOf kept m k) e (is_of kept m d lt))
put_in kept found m count d lt long h p below (inr ne) =
    let there : get_or (set found (get_or kept m d).place (Some m)) p None ≡ get_or found p None = get_or-set_other found (get_or kept m d).place p (Some m) None (λ e. ne (sym e)) in
    subst (λ o. IsFoundAt kept (m + 1) p o) (sym there) (other_place kept m p d (get_or found p None) ne (h p below))

-- A table in which the next kept result has no place.
pub left_out : (kept : List KeptPlace) (found : List (Option ℕ)) (m count : ℕ) (d : KeptPlace) → count ≤ (get_or kept m d).place → ((p : ℕ) → p < count → IsFoundAt kept m p (get_or found p None)) → (p : ℕ) → p < count → IsFoundAt kept (m + 1) p (get_or found p None)
left_out kept found m count d le h p below = other_place kept m p d (get_or found p None) (λ e. omega (arith, e, le, below)) (h p below)

-- What says the same as what says the same does.
same_trans : (one other third : KeptPlace) → AreSame one other → AreSame other third → AreSame one third
same_trans one other third a b = (a.0 ∙ b.0, a.1 ∙ b.1)

same_sym : (one other : KeptPlace) → AreSame one other → AreSame other one
same_sym one other a = (sym a.0, sym a.1)

-- An earlier kept result of the place of that at an index says the same, where the one that is known of the place does.
like_earlier : (kept : List KeptPlace) (m count : ℕ) (d : KeptPlace) (o : Option ℕ) → IsFoundAt kept m (get_or kept m d).place o → AgreesWith kept o (get_or kept m d) → AreAlike kept m count → (i : ℕ) (one : KeptPlace) → i < m → slice_get kept i ≡ Some one → one.place ≡ (get_or kept m d).place → one.place < count → AreSame one (get_or kept m d)
like_earlier kept m count d None found agrees alike i one lt get e below = absurd (found i lt (one, get, e))
like_earlier kept m count d (Some k) found agrees alike i one lt get e below =
    let known = found.1.0 in
    let same : AreSame known (get_or kept m d) = subst (λ o. SaysSame o (get_or kept m d)) found.1.1 agrees in
    same_trans one known (get_or kept m d) (alike i k one known lt found.0 get found.1.1 (e ∙ sym found.1.2) below) same

-- One of two kept results is at an index, the other one is earlier or there too.
alike_at : (kept : List KeptPlace) (m count : ℕ) (d : KeptPlace) → ((i : ℕ) (one : KeptPlace) → i < m → slice_get kept i ≡ Some one → one.place ≡ (get_or kept m d).place → one.place < count → AreSame one (get_or kept m d)) → AreAlike kept m count → (i j : ℕ) (one other : KeptPlace) → i < m + 1 → j < m + 1 → slice_get kept i ≡ Some one → slice_get kept j ≡ Some other → one.place ≡ other.place → one.place < count → (i ≡ m) ⊎ (i ≡ m → ⊥) → (j ≡ m) ⊎ (j ≡ m → ⊥) → AreSame one other
alike_at kept m count d earlier alike i j one other il jl ig jg e below (inl ie) (inl je) =
    let same : one ≡ other = sym (get_or_from_slice_get kept i one d ig) ∙ (ap (λ k. get_or kept k d) (ie ∙ sym je) ∙ get_or_from_slice_get kept j other d jg) in
    (ap (λ (x : KeptPlace). x.basis) same, ap (λ (x : KeptPlace). x.row) same)
alike_at kept m count d earlier alike i j one other il jl ig jg e below (inl ie) (inr jn) =
    let here : get_or kept m d ≡ one = sym (ap (λ k. get_or kept k d) ie) ∙ get_or_from_slice_get kept i one d ig in
    same_sym other one (subst (λ x. AreSame other x) here (earlier j other (omega (arith, jl, jn)) jg (sym e ∙ ap (λ (x : KeptPlace). x.place) (sym here)) (subst (λ p. p < count) e below)))
alike_at kept m count d earlier alike i j one other il jl ig jg e below (inr other_i) (inl je) =
    let here : get_or kept m d ≡ other = sym (ap (λ k. get_or kept k d) je) ∙ get_or_from_slice_get kept j other d jg in
    subst (λ x. AreSame one x) here (earlier i one (omega (arith, il, other_i)) ig (e ∙ ap (λ (x : KeptPlace). x.place) (sym here)) below)
alike_at kept m count d earlier alike i j one other il jl ig jg e below (inr other_i) (inr jn) =
    alike i j one other (omega (arith, il, other_i)) (omega (arith, jl, jn)) ig jg e below

-- One kept result more, which says the same as what is known of its place, if anything is.
pub alike_more : (kept : List KeptPlace) (m count : ℕ) (d : KeptPlace) (o : Option ℕ) → IsFoundAt kept m (get_or kept m d).place o → AgreesWith kept o (get_or kept m d) → AreAlike kept m count → AreAlike kept (m + 1) count
alike_more kept m count d o found agrees alike = λ i j one other il jl ig jg e below.
    alike_at kept m count d (like_earlier kept m count d o found agrees alike) alike i j one other il jl ig jg e below (cases_eq i m) (cases_eq j m)

-- One kept result more, of none of the first so many places.
pub alike_beyond : (kept : List KeptPlace) (m count : ℕ) (d : KeptPlace) → count ≤ (get_or kept m d).place → AreAlike kept m count → AreAlike kept (m + 1) count
alike_beyond kept m count d le alike = λ i j one other il jl ig jg e below.
    alike_at kept m count d (λ k x lt get same within. absurd (omega (arith, le, same, within))) alike i j one other il jl ig jg e below (cases_eq i m) (cases_eq j m)

-- What is known of the place of the kept result at an index, and does not say the same.
pub they_differ : (kept : List KeptPlace) (m count k : ℕ) (d : KeptPlace) → m < length kept → (get_or kept m d).place < count → IsFoundAt kept m (get_or kept m d).place (Some k) → (SaysSame (slice_get kept k) (get_or kept m d) → ⊥) → DoDiffer kept count k m
they_differ kept m count k d lt below found other = record {
  first = found.1.0;
  second = get_or kept m d;
  order = found.0;
  there = found.1.1;
  here = slice_get-get_or kept m d lt;
  place = found.1.2;
  within = subst (λ p. p < count) (sym found.1.2) below;
  differ = λ same. other (subst (λ o. SaysSame o (get_or kept m d)) (sym found.1.1) same);
}

-- What stands at a place of a list does not hang on what stands for a place past its end.
pub same_default : {A : Type 0} (xs : List A) (i : ℕ) (d e : A) → i < length xs → get_or xs i d ≡ get_or xs i e
same_default xs i d e within = same_Some (get_or xs i d) (get_or xs i e) (sym (slice_get-get_or xs i d within) ∙ slice_get-get_or xs i e within)
