-- Operations that are joined by bars are cut at them again.
use Rattle.std.proofs.Common.{◌≡◌, ℕ, Bool, true, false, not, ◌||◌, List, [], ◌∷◌, ◌++◌}
use Rattle.std.proofs.Common.{get_or, map, refl, sym, append_assoc, true≢false}
use Rattle.std.specs.Prelude.{◌==◌}
use Rattle.std.specs.List.{list_all}
use Rattle.asm_line.specs.Text.{trim}
use Rattle.text_parts.specs.Pieces.{pieces}
use Rattle.listing_line.specs.WordText.{bar_separated}
use Rattle.listing_line.proofs.Bytes.{list_all-imp, list_all-both, lacks, split-at, split-lacks, Starts, IsTrimmed}
use Rattle.listing_line.proofs.Bytes.{Ends-append, IsTrimmed-append}
use Rattle.listing_line.proofs.Bytes.{trim-trimmed, trim-blank_before, trim-blank_behind, trim-blank_both}
use Rattle.listing_line.proofs.Statements.{is_ink, ink-no_bar}
use Rattle.listing_line.proofs.Parts.{IsText}

-- a byte of a line before its comment
abbrev pub is_print : ℕ → Bool
is_print b = is_ink b || b == 124

ink-print : (b : ℕ) → is_ink b ≡ true → is_print b ≡ true
ink-print b e = rw e

pub ink-prints : (xs : List ℕ) → list_all is_ink xs ≡ true → list_all is_print xs ≡ true
ink-prints xs e = list_all-imp is_ink is_print ink-print xs e

ink-lacks_bar : (xs : List ℕ) → list_all is_ink xs ≡ true → lacks (λ b. b == 124) xs ≡ true
ink-lacks_bar xs e = list_all-imp is_ink (λ b. not (b == 124)) ink-no_bar xs e

abbrev pub AreTexts : List (List ℕ) → Type 0
AreTexts [] = Unit {0}
AreTexts (x ∷ xs) = IsText x × AreTexts xs

-- cut at the bars and trimmed, also behind a blank
pub joined-parts : (x : List ℕ) (xs : List (List ℕ)) → AreTexts (x ∷ xs)
    → (map trim (pieces 124 (bar_separated (x ∷ xs))) ≡ x ∷ xs)
    × (map trim (pieces 124 (32 ∷ bar_separated (x ∷ xs))) ≡ x ∷ xs)
joined-parts x [] e =
    let lone = split-lacks (λ b. b == 124) x (ink-lacks_bar x e.0.ink) in
    (rw (lone, trim-trimmed x e.0.trimmed), rw (lone, trim-blank_before x e.0.trimmed))
joined-parts x (y ∷ ys) e =
    let rest = 32 ∷ bar_separated (y ∷ ys) in
    let clear = list_all-both (λ b. not (b == 124)) x (32 ∷ []) (ink-lacks_bar x e.0.ink) refl in
    let first = split-at (λ b. b == 124) (x ++ 32 ∷ []) 124 rest clear refl in
    let grouped : x ++ (32 ∷ 124 ∷ rest) ≡ (x ++ 32 ∷ []) ++ 124 ∷ rest =
    sym (append_assoc x (32 ∷ []) (124 ∷ rest)) in
    let more = (joined-parts y ys e.1).1 in (
      rw (grouped, first, trim-blank_behind x e.0.trimmed, more),
      rw (grouped, first, trim-blank_both x e.0.trimmed, more),
    )

-- What stands on a line before its comment. It begins with no dot.
pub record IsPrinted (text : List ℕ) : Type 0 where
  pub trimmed : IsTrimmed text
  pub print : list_all is_print text ≡ true
  pub no_dot : (get_or text 0 0 == 46) ≡ false

-- nor with a @
pub record IsPlain (text : List ℕ) : Type 0 where
  pub printed : IsPrinted text
  pub no_at : (get_or text 0 0 == 64) ≡ false

first-append : (xs ys : List ℕ) → Starts xs → get_or (xs ++ ys) 0 0 ≡ get_or xs 0 0
first-append [] ys s = absurd (true≢false s)
first-append (x ∷ xs) ys s = refl

text-plain : (x : List ℕ) → IsText x → IsPlain x
text-plain x t = record {
  printed = record { trimmed = t.trimmed; print = ink-prints x t.ink; no_dot = t.no_dot };
  no_at = t.no_at;
}

pub joined-plain : (x : List ℕ) (xs : List (List ℕ)) → AreTexts (x ∷ xs) → IsPlain (bar_separated (x ∷ xs))
joined-plain x [] e = text-plain x e.0
joined-plain x (y ∷ ys) e =
    let rest = bar_separated (y ∷ ys) in
    let r = joined-plain y ys e.1 in
    let behind = 32 ∷ 124 ∷ 32 ∷ rest in
    let same = first-append x behind e.0.trimmed.front in record {
      printed = record {
        trimmed = IsTrimmed-append x behind e.0.trimmed.front
            (Ends-append (32 ∷ 124 ∷ 32 ∷ []) rest r.printed.trimmed.back);
        print = list_all-both is_print x behind (ink-prints x e.0.ink) r.printed.print;
        no_dot = rw same e.0.no_dot;
      };
      no_at = rw same e.0.no_at;
    }
