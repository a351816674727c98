-- Watched words that are looked at again, one after another.
use Rattle.std.proofs.Common.{◌≡◌, ℕ, zero, suc, ◌+◌, ◌<◌, false, refl, ap, ◌∙◌, arith}
use Rattle.std.proofs.Common.{List, [], ◌∷◌, ◌++◌, length, take, drop, get_or, set, map}
use Rattle.std.specs.List.{list_any}
use Rattle.std.proofs.lemmas.Bool.{or_parts}
use Rattle.tag_memory.specs.Storage.{TaggedMemory, cell_at}
use Rattle.replay_debugger.specs.Watches.{WatchValue, watched_part}
use Rattle.replay_debugger.specs.StopFinders.{seen_again, has_changed}
use Rattle.replay_debugger.proofs.WatchedParts.{no_difference}

-- the words as far as they have been looked at
abbrev pub looked_at : {A : Type 0} → (A → A) → List A → ℕ → List A
looked_at f old i = map f (take i old) ++ drop i old

get_at : {A : Type 0} (f : A → A) (old : List A) (i : ℕ) (d : A) → i < length old
    → get_or (looked_at f old i) i d ≡ get_or old i d
get_at f [] i d below = absurd (omega arith)
get_at f (x ∷ xs) zero d below = refl
get_at f (x ∷ xs) (suc i) d below = get_at f xs i d (omega arith)

set_at : {A : Type 0} (f : A → A) (old : List A) (i : ℕ) (d : A) → i < length old
    → set (looked_at f old i) i (f (get_or old i d)) ≡ looked_at f old (suc i)
set_at f [] i d below = absurd (omega arith)
set_at f (x ∷ xs) zero d below = refl
set_at f (x ∷ xs) (suc i) d below = ap (λ t. f x ∷ t) (set_at f xs i d (omega arith))

any_default : {A : Type 0} (xs : List A) (i : ℕ) (d e : A) → i < length xs → get_or xs i d ≡ get_or xs i e
any_default [] i d e below = absurd (omega arith)
any_default (x ∷ xs) zero d e below = refl
any_default (x ∷ xs) (suc i) d e below = any_default xs i d e (omega arith)

-- a word that has not been looked at is as it was
word_read : (m : TaggedMemory) (old words : List WatchValue) (i : ℕ) (d e : WatchValue) → i < length old
    → words ≡ looked_at (seen_again m) old i → get_or words i d ≡ get_or old i e
word_read m old words i d e below all =
    ap (λ ws. get_or ws i d) all ∙ get_at (seen_again m) old i d below ∙ any_default old i d e below

pub word_written : (m : TaggedMemory) (old words : List WatchValue) (i : ℕ) (w later : WatchValue) → i < length old
    → words ≡ looked_at (seen_again m) old i → later ≡ seen_again m (get_or words i w)
    → set words i later ≡ looked_at (seen_again m) old (i + 1)
word_written m old words i w later below all again =
    let is : later ≡ seen_again m (get_or old i w) = again
    ∙ ap (seen_again m) (word_read m old words i w w below all) in
    let next : suc i ≡ i + 1 = omega arith in
    (λ k. set (all k) i (is k)) ∙ set_at (seen_again m) old i w below ∙ ap (looked_at (seen_again m) old) next

-- where none has changed, the words are seen as they were
same_watch : (m : TaggedMemory) (w : WatchValue) → has_changed m w ≡ false → w ≡ seen_again m w
same_watch m w e =
    ap (λ c. record w { seen = c })
    (no_difference w.seen (watched_part w.tags_alone (cell_at m w.address)) e)

pub unchanged : (m : TaggedMemory) (words : List WatchValue)
    → list_any (has_changed m) words ≡ false → words ≡ map (seen_again m) words
unchanged m [] e = refl
unchanged m (w ∷ ws) e =
    let neither = or_parts (has_changed m w) (list_any (has_changed m) ws) e in
    (λ i. same_watch m w neither.0 i ∷ unchanged m ws neither.1 i)
