-- Digits are put in place from the last one on.
use Rattle.std.proofs.Common.{◌≡◌, ℕ, zero, suc, ◌+◌, ◌-◌, ◌/◌, ◌%◌, ◌<◌, ◌≤◌, true, List, [], ◌∷◌, ◌++◌, length}
use Rattle.std.proofs.Common.{drop}
use Rattle.std.proofs.Common.{set, refl, sym, ◌∙◌, arith, append_assoc, append-nil}
use Rattle.std.specs.Prelude.{codes, slice_index_or}
use Rattle.std.specs.Fmt.{digit_glyph}
use Rattle.std.specs.Str.{IsAscii, IsUtf8}
use Rattle.std.proofs.lemmas.Bool.Decides.{nat_tests}
use Rattle.std.proofs.lemmas.List.{drop-set, at_drop_all}
use Rattle.std.proofs.lemmas.Str.{IsUtf8-from_ascii}
use Rattle.std.proofs.lemmas.Str.Ascii.{IsAscii-nil, IsAscii-push}
use Rattle.text_parts.specs.Digits.{fixed_digits}
use Rattle.text_parts.specs.Text.{IsText}

pub none_filled : (base count n : ℕ) (ds : List ℕ) → length ds ≡ count
    → fixed_digits base count n ++ drop count ds ≡ fixed_digits base count n
none_filled base count n ds e =
    at_drop_all (λ rest. fixed_digits base count n ++ rest) ds count (omega (arith, e))
    ∙ append-nil (fixed_digits base count n)

pub one_filled : (base place n d : ℕ) (ds whole : List ℕ) → 0 < place → place ≤ length ds
    → d ≡ digit_glyph true (n % base) → fixed_digits base place n ++ drop place ds ≡ whole
    → fixed_digits base (place - 1) (n / base) ++ drop (place - 1) (set ds (place - 1) d) ≡ whole
unfolding fixed_digits
one_filled base zero n d ds whole some le e before = absurd (omega (arith, some))
one_filled base (suc k) n d ds whole some le e before =
    let same : suc k - 1 ≡ k = omega arith in
    let more : k + 1 ≡ suc k = omega arith in
    let front = fixed_digits base k (n / base) in
    rw (same, drop-set ds k d (omega (arith, le)), e, more)
    (sym (append_assoc front (digit_glyph true (n % base) ∷ []) (drop (suc k) ds)) ∙ before)

pub all_filled : (base place n : ℕ) (ds whole : List ℕ) → place ≤ 0
    → fixed_digits base place n ++ drop place ds ≡ whole → ds ≡ whole
unfolding fixed_digits
all_filled base zero n ds whole none e = e
all_filled base (suc k) n ds whole none e = absurd (omega (arith, none))

-- Digits are text.

glyph_small : (d : ℕ) → d < 16 → digit_glyph true d < 128
glyph_small d small = grind (arith, nat_tests)

ascii-fixed_digits : (base count n : ℕ) → 0 < base → base ≤ 16 → IsAscii (fixed_digits base count n)
unfolding fixed_digits
ascii-fixed_digits base zero n some le = IsAscii-nil
ascii-fixed_digits base (suc k) n some le =
    IsAscii-push (fixed_digits base k (n / base)) (digit_glyph true (n % base))
    (ascii-fixed_digits base k (n / base) some le) (glyph_small (n % base) (omega arith))

text-fixed_digits : (base count n : ℕ) → 0 < base → base ≤ 16 → IsUtf8 (fixed_digits base count n)
text-fixed_digits base count n some le =
    IsUtf8-from_ascii (fixed_digits base count n) (ascii-fixed_digits base count n some le)

pub hexadecimal_text : (count n : ℕ) (bs : List ℕ) → bs ≡ fixed_digits 16 count n → IsText bs
hexadecimal_text count n bs e = record { utf8 = rw e (text-fixed_digits 16 count n (omega arith) (omega arith)) }

pub decimal_text : (count n : ℕ) (bs : List ℕ) → bs ≡ fixed_digits 10 count n → IsText bs
decimal_text count n bs e = record { utf8 = rw e (text-fixed_digits 10 count n (omega arith) (omega arith)) }

-- The table of digits.

pub glyph_at : (d : ℕ) → d < 16 → slice_index_or (codes "0123456789ABCDEF") d 0 ≡ digit_glyph true d
glyph_at zero small = refl
glyph_at (suc zero) small = refl
glyph_at (suc (suc zero)) small = refl
glyph_at (suc (suc (suc zero))) small = refl
glyph_at (suc (suc (suc (suc zero)))) small = refl
glyph_at (suc (suc (suc (suc (suc zero))))) small = refl
glyph_at (suc (suc (suc (suc (suc (suc zero)))))) small = refl
glyph_at (suc (suc (suc (suc (suc (suc (suc zero))))))) small = refl
glyph_at (suc (suc (suc (suc (suc (suc (suc (suc zero)))))))) small = refl
glyph_at (suc (suc (suc (suc (suc (suc (suc (suc (suc zero))))))))) small = refl
glyph_at (suc (suc (suc (suc (suc (suc (suc (suc (suc (suc zero)))))))))) small = refl
glyph_at (suc (suc (suc (suc (suc (suc (suc (suc (suc (suc (suc zero))))))))))) small = refl
glyph_at (suc (suc (suc (suc (suc (suc (suc (suc (suc (suc (suc (suc zero)))))))))))) small = refl
glyph_at (suc (suc (suc (suc (suc (suc (suc (suc (suc (suc (suc (suc (suc zero))))))))))))) small = refl
glyph_at (suc (suc (suc (suc (suc (suc (suc (suc (suc (suc (suc (suc (suc (suc zero)))))))))))))) small = refl
glyph_at (suc (suc (suc (suc (suc (suc (suc (suc (suc (suc (suc (suc (suc (suc (suc zero))))))))))))))) small = refl
glyph_at (suc (suc (suc (suc (suc (suc (suc (suc (suc (suc (suc (suc (suc (suc (suc (suc d)))))))))))))))) small =
    absurd (omega arith)
