-- The lines of a text that is not empty: its first line, and those of the text after it.
use Rattle.std.proofs.Common.{◌≡◌, ℕ, suc, ◌+◌, ◌<◌, Bool, true, false, not, cond, List, [], ◌∷◌, length, take, drop}
use Rattle.std.proofs.Common.{refl, ap, arith}
use Rattle.std.specs.List.{before_first, after_first, onto_first, position_or_len}
use Rattle.text_parts.specs.Lines.{is_line_end, lines_of}

-- how far the end of the first line is
abbrev line_length : List ℕ → ℕ
line_length bytes = position_or_len is_line_end bytes

-- whether or not a byte ends the line
first_line-cons : (ends : Bool) (byte : ℕ) (bytes : List ℕ)
    → onto_first byte (lines_of bytes)
    ≡ (byte ∷ before_first is_line_end bytes) ∷ lines_of (after_first is_line_end bytes)
    → cond ends ([] ∷ lines_of bytes) (onto_first byte (lines_of bytes))
    ≡ take (cond (not ends) (1 + line_length bytes) 0) (byte ∷ bytes)
    ∷ lines_of (drop (cond (not ends) (1 + line_length bytes) 0 + 1) (byte ∷ bytes))
first_line-cons true byte bytes onto = refl
first_line-cons false byte bytes onto =
    let n = line_length bytes in
    let here : 1 + n ≡ suc n = omega arith in
    let after : suc n + 1 ≡ suc (n + 1) = omega arith in
    rw (here, after) onto

onto_first-lines : (byte : ℕ) (bytes : List ℕ)
    → onto_first byte (lines_of bytes)
    ≡ (byte ∷ before_first is_line_end bytes) ∷ lines_of (after_first is_line_end bytes)
unfolding lines_of
onto_first-lines byte [] = refl
onto_first-lines byte (next ∷ bytes) =
    ap (onto_first byte) (first_line-cons (is_line_end next) next bytes (onto_first-lines next bytes))

pub lines-first : (text : List ℕ) → 0 < length text
    → lines_of text ≡ before_first is_line_end text ∷ lines_of (after_first is_line_end text)
unfolding lines_of
lines-first [] some = absurd (omega arith)
lines-first (byte ∷ bytes) some = first_line-cons (is_line_end byte) byte bytes (onto_first-lines byte bytes)

pub lines-cut : (text line after : List ℕ) → line ≡ before_first is_line_end text
    → after ≡ after_first is_line_end text → 0 < length text → lines_of text ≡ line ∷ lines_of after
lines-cut text line after e f some = rw (e, f) (lines-first text some)
