-- The lines of registers, one after another.
use Rattle.std.proofs.Common.{◌≡◌, ℕ, suc, ◌+◌, ◌-◌, ◌<◌, ◌≤◌, List, [], ◌++◌, sym, ◌∙◌, ap, append_assoc, append-nil}
use Rattle.std.proofs.Common.{arith}
use Rattle.stream_core.specs.StatusWords.{status_number}
use Rattle.stream_core.specs.Registers.{register_at, target_at}
use Rattle.stream_core.specs.Streams.{StreamValue}
use Rattle.stream_core.specs.StreamText.{status_line, register_line, register_lines, target_line, target_lines}
use Rattle.stream_core.specs.StreamText.{stream_text_of}
use Rattle.stream_core.specs.declared.status_words.StatusWord.{StatusWord}

pub register_lines-step : (rs : List ℕ) (r : ℕ) → r < 32
    → register_lines rs (32 - r) r ≡ register_line r (register_at rs r) ++ register_lines rs (32 - (r + 1)) (r + 1)
unfolding register_lines
register_lines-step rs r h =
    let one : 32 - r ≡ suc (32 - (r + 1)) = omega arith in ap (λ k. register_lines rs k r) one

pub register_lines-end : (rs : List ℕ) (r : ℕ) → 32 ≤ r → register_lines rs (32 - r) r ≡ []
unfolding register_lines
register_lines-end rs r h = let none : 32 - r ≡ 0 = omega arith in ap (λ k. register_lines rs k r) none

pub target_lines-step : (ts : List StatusWord) (t : ℕ) → t < 8
    → target_lines ts (8 - t) t
    ≡ target_line t (status_number (target_at ts t)) ++ target_lines ts (8 - (t + 1)) (t + 1)
unfolding target_lines
target_lines-step ts t h = let one : 8 - t ≡ suc (8 - (t + 1)) = omega arith in ap (λ k. target_lines ts k t) one

pub target_lines-end : (ts : List StatusWord) (t : ℕ) → 8 ≤ t → target_lines ts (8 - t) t ≡ []
unfolding target_lines
target_lines-end ts t h = let none : 8 - t ≡ 0 = omega arith in ap (λ k. target_lines ts k t) none

pub text_begins : (text : List ℕ) (s : StreamValue) → text ≡ status_line s
    → text ++ register_lines s.registers 32 0 ++ target_lines s.targets 8 0 ≡ stream_text_of s
unfolding stream_text_of
text_begins text s e = ap (λ xs. xs ++ register_lines s.registers 32 0 ++ target_lines s.targets 8 0) e

-- one more line in the text is one less to come
pub register_written : (rs : List ℕ) (r v : ℕ) (text new targets all : List ℕ) → r < 32 → v ≡ register_at rs r
    → new ≡ text ++ register_line r v → text ++ register_lines rs (32 - r) r ++ targets ≡ all
    → new ++ register_lines rs (32 - (r + 1)) (r + 1) ++ targets ≡ all
register_written rs r v text new targets all h is e whole =
    let rest = register_lines rs (32 - (r + 1)) (r + 1) in
    ap (λ xs. xs ++ rest ++ targets) (e ∙ ap (λ n. text ++ register_line r n) is)
    ∙ ap (λ xs. xs ++ targets) (append_assoc text (register_line r (register_at rs r)) rest)
    ∙ ap (λ xs. text ++ xs ++ targets) (sym (register_lines-step rs r h))
    ∙ whole

pub registers_end : (rs : List ℕ) (r : ℕ) (text targets all : List ℕ) → 32 ≤ r
    → text ++ register_lines rs (32 - r) r ++ targets ≡ all → text ++ targets ≡ all
registers_end rs r text targets all h whole =
    ap (λ xs. xs ++ targets) (sym (append-nil text))
    ∙ ap (λ xs. text ++ xs ++ targets) (sym (register_lines-end rs r h)) ∙ whole

pub target_written : (ts : List StatusWord) (t : ℕ) (word : StatusWord) (text new all : List ℕ) → t < 8
    → word ≡ target_at ts t → new ≡ text ++ target_line t (status_number word)
    → text ++ target_lines ts (8 - t) t ≡ all → new ++ target_lines ts (8 - (t + 1)) (t + 1) ≡ all
target_written ts t word text new all h is e whole =
    let rest = target_lines ts (8 - (t + 1)) (t + 1) in
    ap (λ xs. xs ++ rest) (e ∙ ap (λ w. text ++ target_line t (status_number w)) is)
    ∙ append_assoc text (target_line t (status_number (target_at ts t))) rest
    ∙ ap (λ xs. text ++ xs) (sym (target_lines-step ts t h))
    ∙ whole

pub targets_end : (ts : List StatusWord) (t : ℕ) (text all : List ℕ) → 8 ≤ t
    → text ++ target_lines ts (8 - t) t ≡ all → text ≡ all
targets_end ts t text all h whole =
    sym (append-nil text) ∙ ap (λ xs. text ++ xs) (sym (target_lines-end ts t h)) ∙ whole
