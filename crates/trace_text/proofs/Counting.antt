-- Steps of rounds, one after another.
use Rattle.std.proofs.Common.{◌≡◌, ℕ, zero, suc, ◌+◌, ◌*◌, List, [], ◌∷◌, ◌++◌, refl, sym, ap, ◌∙◌, arith}
use Rattle.std.proofs.Common.{append_assoc, append-nil}
use Rattle.std.proofs.lemmas.List.FromFn.{map-range_with_len_more}
use Rattle.std.proofs.lemmas.Grind.{flat_map-append}
use Rattle.std.specs.List.{range_with_len, flat_map, repeat}
use Rattle.processor.specs.declared.steps.Step.{Step}
use Rattle.trace_text.specs.Rounds.{turn, turns, round, rounds}

range-suc : (a n : ℕ) → range_with_len a (suc n) ≡ range_with_len a n ++ (a + n) ∷ []
range-suc a zero = let same : a ≡ a + 0 = omega arith in ap (λ m. m ∷ []) same
range-suc a (suc n) =
    let same : a + 1 + n ≡ a + suc n = omega arith in
    ap (λ ns. a ∷ ns) (range-suc (a + 1) n) ∙ ap (λ m. a ∷ (range_with_len (a + 1) n ++ m ∷ [])) same

pub turns-more : (p s : ℕ) (old items new : List Step) → items ≡ old ++ turns s p → new ≡ items ++ turn p s ∷ []
    → new ≡ old ++ turns (s + 1) p
turns-more p s old items new so_far e =
    let same : 0 + s ≡ s = omega arith in
    e ∙ ap (λ ts. ts ++ turn p s ∷ []) so_far ∙ append_assoc old (turns s p) (turn p s ∷ [])
    ∙ ap (λ ts. old ++ ts) (sym (map-range_with_len_more (turn p) 0 s s same))

pub round-more : (p streams : ℕ) (old items new : List Step) → items ≡ old ++ round p streams
    → new ≡ items ++ turns streams p
    → new ≡ old ++ round (p + 1) streams
round-more p streams old items new so_far e =
    let next : p + 1 ≡ suc p = omega arith in
    let same : 0 + p ≡ p = omega arith in
    let last : flat_map (turns streams) (range_with_len 0 (p + 1))
    ≡ flat_map (turns streams) (range_with_len 0 p ++ p ∷ []) =
    ap (λ n. flat_map (turns streams) (range_with_len 0 n)) next
    ∙ ap (flat_map (turns streams)) (range-suc 0 p ∙ ap (λ m. range_with_len 0 p ++ m ∷ []) same) in
    let more : round (p + 1) streams ≡ round p streams ++ turns streams p =
    last ∙ flat_map-append (turns streams) (range_with_len 0 p) (p ∷ [])
    ∙ ap (λ ts. round p streams ++ ts) (append-nil (turns streams p)) in
    e ∙ ap (λ ts. ts ++ turns streams p) so_far ∙ append_assoc old (round p streams) (turns streams p)
    ∙ ap (λ ts. old ++ ts) (sym more)

repeat-suc : {A : Type 0} (n : ℕ) (xs : List A) → repeat (suc n) xs ≡ repeat n xs ++ xs
repeat-suc zero xs = append-nil xs
repeat-suc (suc n) xs = ap (λ ys. xs ++ ys) (repeat-suc n xs) ∙ sym (append_assoc xs (repeat n xs) xs)

pub rounds-more : (p s n : ℕ) (items new : List Step) → items ≡ rounds p s n → new ≡ items ++ round p s
    → new ≡ rounds p s (n + 1)
rounds-more p s n items new so_far e =
    let next : suc n ≡ n + 1 = omega arith in
    e ∙ ap (λ ts. ts ++ round p s) so_far ∙ sym (repeat-suc n (round p s)) ∙ ap (λ m. repeat m (round p s)) next

no_turns : (ps : List ℕ) → flat_map (turns 0) ps ≡ []
no_turns [] = refl
no_turns (p ∷ ps) = no_turns ps

no_round : (p s : ℕ) → p * s ≡ 0 → round p s ≡ []
no_round zero s e = refl
no_round (suc p) zero e = no_turns (range_with_len 0 (suc p))
no_round (suc p) (suc s) e = absurd (omega arith)

repeat-none : {A : Type 0} (n : ℕ) → repeat n (let none : List A = [] in none) ≡ []
repeat-none zero = refl
repeat-none {A} (suc n) = repeat-none {A = A} n

-- rounds of no steps
pub rounds-none : (p s n : ℕ) → p * s ≡ 0 → rounds p s n ≡ []
rounds-none p s n e = ap (repeat n) (no_round p s e) ∙ repeat-none {A = Step} n
