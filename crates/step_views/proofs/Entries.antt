-- Entries that are kept where they differ, as a list of changes.
use Rattle.std.proofs.Common.{◌≡◌, ◌≢◌, ℕ, zero, suc, ◌<◌, ◌⊎◌, inl, inr, refl, sym, ap, ◌∙◌, subst, arith}
use Rattle.std.proofs.Common.{List, [], ◌∷◌, ◌++◌, length, get_or, append_assoc}
use Rattle.std.specs.Prelude.{⊤}
use Rattle.std.specs.List.{Contains, AllPairs}
use Rattle.std.proofs.lemmas.List.{append-nil}
use Rattle.step_views.specs.declared.places.Change.{Change}
use Rattle.step_views.specs.Comparing.{IsKept, AreKept}

-- Among a list.

-- the change is one of the list
abbrev pub In : List Change → Change → Type 0
In [] c = ⊥
In (x ∷ xs) c = (x ≡ c) ⊎ In xs c

pub Contains-from_in : (xs : List Change) (c : Change) → In xs c → Contains xs c
Contains-from_in [] c h = absurd h
Contains-from_in (x ∷ xs) c (inl e) = (0, omega arith, e)
Contains-from_in (x ∷ xs) c (inr h) =
    let found = Contains-from_in xs c h in
    (suc found.0, omega (arith, found.1), found.2)

in_at : (xs : List Change) (c : Change) (k : ℕ) → k < length xs → get_or xs k c ≡ c → In xs c
in_at [] c k below e = absurd (omega arith)
in_at (x ∷ xs) c zero below e = inl e
in_at (x ∷ xs) c (suc k) below e = inr (in_at xs c k (omega arith) e)

pub in_from_Contains : (xs : List Change) (c : Change) → Contains xs c → In xs c
in_from_Contains xs c h = in_at xs c h.0 h.1 h.2

pub in_left : (xs ys : List Change) (c : Change) → In xs c → In (xs ++ ys) c
in_left [] ys c h = absurd h
in_left (x ∷ xs) ys c (inl e) = inl e
in_left (x ∷ xs) ys c (inr h) = inr (in_left xs ys c h)

pub in_right : (xs ys : List Change) (c : Change) → In ys c → In (xs ++ ys) c
in_right [] ys c h = h
in_right (x ∷ xs) ys c h = inr (in_right xs ys c h)

later : (x c : Change) (xs ys : List Change) → In xs c ⊎ In ys c → In (x ∷ xs) c ⊎ In ys c
later x c xs ys (inl h) = inl (inr h)
later x c xs ys (inr h) = inr h

pub in_either : (xs ys : List Change) (c : Change) → In (xs ++ ys) c → In xs c ⊎ In ys c
in_either [] ys c h = inr h
in_either (x ∷ xs) ys c (inl e) = inl (inl e)
in_either (x ∷ xs) ys c (inr h) = later x c xs ys (in_either xs ys c h)

-- Each of another place.

-- no two are of one place
abbrev pub AreApart : List Change → Type 0
AreApart [] = ⊤
AreApart (x ∷ xs) = ((c : Change) → In xs c → x.place ≢ c.place) × AreApart xs

in_get_or : (xs : List Change) (k : ℕ) (d : Change) → k < length xs → In xs (get_or xs k d)
in_get_or [] k d below = absurd (omega arith)
in_get_or (x ∷ xs) zero d below = inl refl
in_get_or (x ∷ xs) (suc k) d below = inr (in_get_or xs k d (omega arith))

pub AllPairs-from_apart : (xs : List Change) → AreApart xs → AllPairs (λ (c d : Change). c.place ≢ d.place) xs
AllPairs-from_apart [] h i j d less below = absurd (omega arith)
AllPairs-from_apart (x ∷ xs) h i zero d less below = absurd (omega arith)
AllPairs-from_apart (x ∷ xs) h zero (suc j) d less below =
    h.0 (get_or xs j d) (in_get_or xs j d (omega arith))
AllPairs-from_apart (x ∷ xs) h (suc i) (suc j) d less below =
    AllPairs-from_apart xs h.1 i j d (omega arith) (omega arith)

pub apart_join : (xs ys : List Change) → AreApart xs → AreApart ys
    → ((c d : Change) → In xs c → In ys d → c.place ≢ d.place) → AreApart (xs ++ ys)
apart_join [] ys h k across = k
apart_join (x ∷ xs) ys h k across = (
  λ c among. elim (in_either xs ys c among) [ inl a ↦ h.0 c a | inr b ↦ across x c (inl refl) b ],
  apart_join xs ys h.1 k (λ c d a b. across c d (inr a) b),
)

-- Kept.

pub kept_join : (cs ds old mid new : List Change) → AreKept cs old mid → AreKept ds mid new → AreKept (cs ++ ds) old new
kept_join [] ds old mid new h k = let P : List Change → Type 0 = λ l. AreKept ds l new in subst P h k
kept_join (c ∷ cs) ds old mid new h k = (h.0, h.1, kept_join cs ds h.0 mid new h.2 k)

-- the entries of the list that differ
abbrev pub AreSelected : List Change → List Change → Type 0
AreSelected [] added = added ≡ []
AreSelected (c ∷ cs) added =
    ((c.before ≡ c.after) × AreSelected cs added)
    ⊎ ((rest : List Change) × (c.before ≢ c.after) × (added ≡ c ∷ rest) × AreSelected cs rest)

-- what is kept of the entries, put behind the list
abbrev Added : List Change → List Change → List Change → Type 0
Added cs old new = (added : List Change) × (new ≡ old ++ added) × AreSelected cs added

add_kept : (c : Change) (cs old next new : List Change) → IsKept c old next → Added cs next new → Added (c ∷ cs) old new
add_kept c cs old next new (inl k) h = (h.0, h.1 ∙ ap (λ l. l ++ h.0) k.1, inl (k.0, h.2))
add_kept c cs old next new (inr k) h = (
  c ∷ h.0,
  h.1 ∙ ap (λ l. l ++ h.0) k.1 ∙ append_assoc old (c ∷ []) h.0,
  inr (h.0, k.0, refl, h.2),
)

kept_added : (cs old new : List Change) → AreKept cs old new → Added cs old new
kept_added [] old new h = ([], h ∙ sym (append-nil old), refl)
kept_added (c ∷ cs) old new h = add_kept c cs old h.0 new h.1 (kept_added cs h.0 new h.2)

pub kept_selected : (cs new : List Change) → AreKept cs [] new → AreSelected cs new
kept_selected cs new h =
    let found = kept_added cs [] new h in
    subst (AreSelected cs) (sym found.1) found.2

-- What is selected.

pub selected_in : (cs added : List Change) (c : Change) → AreSelected cs added → In added c
    → In cs c × (c.before ≢ c.after)
selected_in [] added c is h = absurd (subst (λ (l : List Change). In l c) is h)
selected_in (x ∷ cs) added c (inl k) h =
    let found = selected_in cs added c k.1 h in
    (inr found.0, found.1)
selected_in (x ∷ cs) added c (inr k) h =
    elim (subst (λ (l : List Change). In l c) k.2 h) [
      | inl e ↦ (inl e, let P : Change → Type 0 = λ d. d.before ≢ d.after in subst P e k.1)
      | inr m ↦ let found = selected_in cs k.0 c k.3 m in (inr found.0, found.1)
    ]

-- each entry is selected, or holds the same
pub selected_or_same : (cs added : List Change) (c : Change) → AreSelected cs added → In cs c
    → In added c ⊎ (c.before ≡ c.after)
selected_or_same [] added c is h = absurd h
selected_or_same (x ∷ cs) added c (inl k) (inl e) =
    let P : Change → Type 0 = λ d. d.before ≡ d.after in inr (subst P e k.0)
selected_or_same (x ∷ cs) added c (inl k) (inr h) = selected_or_same cs added c k.1 h
selected_or_same (x ∷ cs) added c (inr k) (inl e) =
    inl (subst (λ (l : List Change). In l c) (sym k.2) (inl e))
selected_or_same (x ∷ cs) added c (inr k) (inr h) =
    elim (selected_or_same cs k.0 c k.3 h) [
      | inl m ↦ inl (subst (λ (l : List Change). In l c) (sym k.2) (inr m))
      | inr e ↦ inr e
    ]

pub selected_apart : (cs added : List Change) → AreSelected cs added → AreApart cs → AreApart added
selected_apart [] added is h = subst AreApart (sym is) tt
selected_apart (x ∷ cs) added (inl k) h = selected_apart cs added k.1 h.1
selected_apart (x ∷ cs) added (inr k) h = subst AreApart (sym k.2) (
  λ c among. h.0 c (selected_in cs k.0 c k.3 among).0,
  selected_apart cs k.0 k.3 h.1,
)
