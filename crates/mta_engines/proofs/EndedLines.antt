-- The lines of a text, line feed by line feed.
use Rattle.std.proofs.Common.{◌≡◌, ◌≢◌, ℕ, ◌+◌, ◌≤◌, false, List, [], ◌∷◌, ◌++◌, length, take, refl, ap, sym, ◌∙◌, arith}
use Rattle.std.proofs.Common.{append_assoc, append-nil, if◌then◌else◌, length-append, ◌==◌}
use Rattle.std.proofs.lemmas.Bool.{ne_eqb}
use Rattle.std.proofs.lemmas.List.Elements.{All-nil, All-cons, All-head, All-tail, All-push}
use Rattle.std.specs.List.{All, onto_first}
use Rattle.text_parts.specs.Lines.{is_line_end, lines_of}
use Rattle.mta_engines.specs.DebugOutput.{HasNoLineEnd, with_line_ends}

-- a line, and the text after its line feed
pub lines-next : (line rest : List ℕ) → HasNoLineEnd line → lines_of (line ++ 10 ∷ rest) ≡ line ∷ lines_of rest
unfolding lines_of
lines-next [] rest none = refl
lines-next (byte ∷ line) rest none =
    let no_end : (byte == 10) ≡ false = ne_eqb byte 10 (All-head (λ b. b ≢ 10) byte line none) in
    let later = lines-next line rest (All-tail (λ b. b ≢ 10) byte line none) in
    rw (no_end, later) refl

-- lines that are ended, and the text after them
pub lines-ended : (lines : List (List ℕ)) (rest : List ℕ) → All HasNoLineEnd lines
    → lines_of (with_line_ends lines ++ rest) ≡ lines ++ lines_of rest
lines-ended [] rest none = refl
lines-ended (line ∷ lines) rest none =
    ap lines_of (append_assoc line (10 ∷ with_line_ends lines) rest)
    ∙ lines-next line (with_line_ends lines ++ rest) (All-head HasNoLineEnd line lines none)
    ∙ ap (λ ls. line ∷ ls) (lines-ended lines rest (All-tail HasNoLineEnd line lines none))

-- a line at the end of a text
pub lines-last : (line : List ℕ) → HasNoLineEnd line → line ≢ [] → lines_of line ≡ line ∷ []
unfolding lines_of
lines-last [] none some = absurd (some refl)
lines-last (byte ∷ []) none some =
    let no_end : (byte == 10) ≡ false = ne_eqb byte 10 (All-head (λ b. b ≢ 10) byte [] none) in
    rw no_end refl
lines-last (byte ∷ next ∷ line) none some =
    let no_end : (byte == 10) ≡ false = ne_eqb byte 10 (All-head (λ b. b ≢ 10) byte (next ∷ line) none) in
    let later = lines-last (next ∷ line) (All-tail (λ b. b ≢ 10) byte (next ∷ line) none) (λ e. cc) in
    rw (no_end, later) refl

-- one line more is ended
pub ends-more : (lines : List (List ℕ)) (line : List ℕ)
    → with_line_ends (lines ++ line ∷ []) ≡ with_line_ends lines ++ (line ++ 10 ∷ [])
ends-more [] line = refl
ends-more (first ∷ lines) line =
    ap (λ t. first ++ 10 ∷ t) (ends-more lines line)
    ∙ sym (append_assoc first (10 ∷ with_line_ends lines) (line ++ 10 ∷ []))
