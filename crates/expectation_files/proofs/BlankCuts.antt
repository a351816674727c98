-- A text is cut at its first blank.
use Rattle.std.proofs.Common.{◌≡◌, ℕ, false, ◌+◌, Option, Bor, MatchOption, ◌-◌, List, [], ◌∷◌, length, take, drop, sym, ap, ◌∙◌, arith, Some, None, length-drop}
use Rattle.std.specs.Option.{option_copied}
use Rattle.std.specs.List.{All, slice_split, position}
use Rattle.std.proofs.lemmas.List.{take_all}
use Rattle.std.proofs.lemmas.List.Sums.{fails_before_first}
use Rattle.std.proofs.lemmas.List.Splits.{slice_split_first, slice_split_none}
use Rattle.text_parts.specs.Pieces.{rest_length}
use Rattle.text_parts.proofs.Pieces.{place_is, no_place}
use Rattle.expectation_files.specs.Words.{is_blank}

pub blank_at : (i : ℕ) (text : List ℕ) → Some i ≡ position is_blank text
    → slice_split is_blank text
    ≡ take i text ∷ slice_split is_blank (take (length text - (i + 1)) (drop (i + 1) text))
blank_at i text e =
    let place = place_is is_blank text i e in
    let whole = take_all (length text - (i + 1)) (drop (i + 1) text) (omega (arith, length-drop (i + 1) text)) in
    slice_split_first is_blank text 0 place.1
    ∙ ap (λ k. take k text ∷ slice_split is_blank (drop (k + 1) text)) (sym place.0)
    ∙ ap (λ t. take i text ∷ slice_split is_blank t) (sym whole)

pub no_blank : (text : List ℕ) → None ≡ position is_blank text → slice_split is_blank text ≡ text ∷ []
no_blank text e =
    let far = no_place is_blank text e in
    let none : All (λ b. is_blank b ≡ false) text =
    λ k d m. fails_before_first is_blank text k d (omega (arith, far, m)) in
    slice_split_none is_blank text none

-- What is left behind the piece that was cut off.

pub rest_drops : (o : Option (Bor (List ℕ))) (piece text : List ℕ)
    → MatchOption o (length piece ≡ length text)
    (λ r. (drop (length piece + 1) text ≡ r.now) × (length piece + length r.now + 1 ≡ length text))
    → (r : List ℕ) → option_copied o ≡ Some r → drop (length piece + 1) text ≡ r
rest_drops None piece text h r e = absurd cc
rest_drops (Some x) piece text h r e =
    let e' : Some x.now ≡ Some r = e in let same : x.now ≡ r = cc in h.0 ∙ same

pub rest_counts : (o : Option (Bor (List ℕ))) (piece text : List ℕ)
    → MatchOption o (length piece ≡ length text)
    (λ r. (drop (length piece + 1) text ≡ r.now) × (length piece + length r.now + 1 ≡ length text))
    → length piece + rest_length (option_copied o) ≡ length text
rest_counts None piece text h = omega (arith, h)
rest_counts (Some x) piece text h = omega (arith, h.1)
