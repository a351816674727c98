-- A text is cut at the first of a byte.
use Rattle.std.proofs.Common.{◌≡◌, ℕ, ◌+◌, ◌-◌, ◌<◌, ◌≤◌, Bool, false, eqb, List, [], ◌∷◌, length, take, drop}
use Rattle.std.proofs.Common.{sym, ◌∙◌, ap, arith, ⊎_elim, lt-ltb, le-ltb, Some, None, length-drop}
use Rattle.std.specs.List.{All, slice_split, before_first, after_first, position_or_len, position}
use Rattle.std.proofs.lemmas.Bool.{cases_lt}
use Rattle.std.proofs.lemmas.List.{take_all, drop_all}
use Rattle.std.proofs.lemmas.List.Sums.{fails_before_first}
use Rattle.std.proofs.lemmas.List.Splits.{slice_split_first, slice_split_none}
use Rattle.text_parts.specs.Pieces.{pieces, text_before, text_after, rest_pieces}

-- a text without the byte is its one part
split_whole : (p : ℕ → Bool) (xs : List ℕ) → length xs ≤ position_or_len p xs
    → slice_split p xs ≡ before_first p xs ∷ []
split_whole p xs h =
    let none : All (λ x. p x ≡ false) xs = λ k d m. fails_before_first p xs k d (omega (arith, h, m)) in
    slice_split_none p xs none ∙ ap (λ t. t ∷ []) (sym (take_all (position_or_len p xs) xs h))

pub pieces_cut : (c : ℕ) (bytes : List ℕ) → pieces c bytes ≡ text_before c bytes ∷ rest_pieces c (text_after c bytes)
unfolding text_after
pieces_cut c bytes =
    let p : ℕ → Bool = λ b. eqb b c in
    ⊎_elim
    (λ h. rw (lt-ltb (position_or_len p bytes) (length bytes) h) (slice_split_first p bytes 0 h))
    (λ h. rw (le-ltb (position_or_len p bytes) (length bytes) h) (split_whole p bytes h))
    (cases_lt (position_or_len p bytes) (length bytes))

pub place_is : (p : ℕ → Bool) (bytes : List ℕ) (i : ℕ) → Some i ≡ position p bytes
    → (i ≡ position_or_len p bytes) × (position_or_len p bytes < length bytes)
place_is p bytes i e = ⊎_elim
    (λ h. let e' = rw (lt-ltb (position_or_len p bytes) (length bytes) h) at e in (cc, h))
    (λ h. let e' = rw (le-ltb (position_or_len p bytes) (length bytes) h) at e in cc)
    (cases_lt (position_or_len p bytes) (length bytes))

pub no_place : (p : ℕ → Bool) (bytes : List ℕ) → None ≡ position p bytes → length bytes ≤ position_or_len p bytes
no_place p bytes e = ⊎_elim
    (λ h. let e' = rw (lt-ltb (position_or_len p bytes) (length bytes) h) at e in cc)
    (λ h. h)
    (cases_lt (position_or_len p bytes) (length bytes))

-- at the place that was found, and where none was
pub cut_at : (c i : ℕ) (bytes : List ℕ) → Some i ≡ position (λ b. eqb b c) bytes
    → pieces c bytes ≡ take i bytes ∷ pieces c (take (length bytes - (i + 1)) (drop (i + 1) bytes))
cut_at c i bytes e =
    let p : ℕ → Bool = λ b. eqb b c in
    let h = place_is p bytes i e in
    let whole = take_all (length bytes - (i + 1)) (drop (i + 1) bytes) (omega (arith, length-drop (i + 1) bytes)) in
    slice_split_first p bytes 0 h.1
    ∙ ap (λ k. take k bytes ∷ pieces c (drop (k + 1) bytes)) (sym h.0)
    ∙ ap (λ t. take i bytes ∷ pieces c t) (sym whole)

pub one_part : (c : ℕ) (bytes : List ℕ) → length bytes ≤ position_or_len (λ b. eqb b c) bytes
    → pieces c bytes ≡ bytes ∷ []
one_part c bytes h =
    let p : ℕ → Bool = λ b. eqb b c in
    split_whole p bytes h ∙ ap (λ t. t ∷ []) (take_all (position_or_len p bytes) bytes h)

pub cut_nowhere : (c : ℕ) (bytes : List ℕ) → None ≡ position (λ b. eqb b c) bytes → pieces c bytes ≡ bytes ∷ []
cut_nowhere c bytes e = one_part c bytes (no_place (λ b. eqb b c) bytes e)

-- what stands after the byte, and nothing where it stands nowhere
pub after_found : (c : ℕ) (bytes rest : List ℕ) → Some rest ≡ text_after c bytes
    → rest ≡ after_first (λ b. eqb b c) bytes
unfolding text_after
after_found c bytes rest e =
    let p : ℕ → Bool = λ b. eqb b c in
    ⊎_elim
    (λ h. let e' = rw (lt-ltb (position_or_len p bytes) (length bytes) h) at e in cc)
    (λ h. let e' = rw (le-ltb (position_or_len p bytes) (length bytes) h) at e in cc)
    (cases_lt (position_or_len p bytes) (length bytes))

pub nothing_after : (c : ℕ) (bytes : List ℕ) → None ≡ text_after c bytes → [] ≡ after_first (λ b. eqb b c) bytes
unfolding text_after
nothing_after c bytes e =
    let p : ℕ → Bool = λ b. eqb b c in
    ⊎_elim
    (λ h. let e' = rw (lt-ltb (position_or_len p bytes) (length bytes) h) at e in cc)
    (λ h. sym (drop_all (position_or_len p bytes + 1) bytes (omega (arith, h))))
    (cases_lt (position_or_len p bytes) (length bytes))
