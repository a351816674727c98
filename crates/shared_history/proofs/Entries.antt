-- A history cut at one of its entries, and the pairs of a processor there.
use Rattle.std.proofs.Common.{◌≡◌, ℕ, suc, ◌+◌, ◌<◌, ◌≤◌, sym, refl, ◌∙◌, ap, arith, List, [], ◌∷◌, ◌++◌, length}
use Rattle.std.proofs.Common.{take, drop, Some, Bool, true, false, cond, eqb}
use Rattle.std.specs.Prelude.{slice_get}
use Rattle.std.proofs.lemmas.Bool.{eq-eqb}
use Rattle.std.proofs.lemmas.List.{take-append-drop, take_more, drop_more, append-nil}
use Rattle.std.proofs.lemmas.Option.{slice_get_within, get_or_from_slice_get}
use Rattle.processor.specs.Histories.{pairs_of, pair_of}
use Rattle.processor.specs.declared.steps.Entry.{Entry}
use Rattle.processor.proofs.Histories.{pairs_of-append}

pub record Splits (es : List Entry) (i : ℕ) (e : Entry) : Type 0 where
  pub within : i < length es
  pub upto : take (i + 1) es ≡ take i es ++ e ∷ []
  pub whole : es ≡ take i es ++ e ∷ drop (i + 1) es

pub splits : (es : List Entry) (i : ℕ) (e : Entry) → slice_get es i ≡ Some e → Splits es i e
splits es i e h =
    let w = slice_get_within es i e h in
    let g = get_or_from_slice_get es i e e h in
    record {
      within = w;
      upto = take_more es i e w ∙ ap (λ x. take i es ++ x ∷ []) g;
      whole = sym (take-append-drop i es)
          ∙ ap (λ l. take i es ++ l) (drop_more es i e w ∙ ap (λ x. x ∷ drop (i + 1) es) g);
    }

pairs_of-here : (e : Entry) (es : List Entry) → pairs_of e.p (e ∷ es) ≡ pair_of e ∷ pairs_of e.p es
pairs_of-here e es = rw (eq-eqb e.p e.p refl) refl

-- the pairs of the entry's processor, up to it and behind it
pub pairs-at : (es : List Entry) (i : ℕ) (e : Entry) → Splits es i e
    → pairs_of e.p es ≡ pairs_of e.p (take i es) ++ pair_of e ∷ pairs_of e.p (drop (i + 1) es)
pairs-at es i e h =
    ap (pairs_of e.p) h.whole ∙ pairs_of-append e.p (take i es) (e ∷ drop (i + 1) es)
    ∙ ap (λ l. pairs_of e.p (take i es) ++ l) (pairs_of-here e (drop (i + 1) es))

-- with the entry one pair more
pub pairs_of-more : (es : List Entry) (i : ℕ) (e : Entry) → Splits es i e
    → pairs_of e.p (take (i + 1) es) ≡ pairs_of e.p (take i es) ++ pair_of e ∷ []
pairs_of-more es i e h =
    ap (pairs_of e.p) h.upto ∙ pairs_of-append e.p (take i es) (e ∷ [])
    ∙ ap (λ l. pairs_of e.p (take i es) ++ l) (pairs_of-here e [])

-- of another processor none
pub pairs_of-other : (es : List Entry) (i : ℕ) (e : Entry) (q : ℕ) → Splits es i e → eqb e.p q ≡ false
    → pairs_of q (take (i + 1) es) ≡ pairs_of q (take i es)
pairs_of-other es i e q h other =
    ap (pairs_of q) h.upto ∙ pairs_of-append q (take i es) (e ∷ [])
    ∙ ap (λ b. pairs_of q (take i es) ++ cond b (pair_of e ∷ []) []) other ∙ append-nil (pairs_of q (take i es))

cond-length : {A : Type 0} (b : Bool) (x : A) (xs : List A) (n : ℕ) → length xs ≤ n
    → length (cond b (x ∷ xs) xs) ≤ suc n
cond-length true x xs n h = omega arith
cond-length false x xs n h = omega arith

-- as many pairs as entries, at most
pub pairs_of-length : (p : ℕ) (es : List Entry) → length (pairs_of p es) ≤ length es
pairs_of-length p [] = omega arith
pairs_of-length p (e ∷ es) = cond-length (eqb e.p p) (pair_of e) (pairs_of p es) (length es) (pairs_of-length p es)
