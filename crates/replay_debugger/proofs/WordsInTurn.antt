-- Words of the memory, one after another.
use Rattle.std.proofs.Common.{◌≡◌, ℕ, suc, ◌+◌, ◌-◌, ◌*◌, ◌<◌}
use Rattle.std.proofs.Common.{refl, sym, ap, ◌∙◌, arith, List, [], ◌∷◌, ◌++◌, append_assoc}
use Rattle.std.proofs.Common.{Option, Some, None, is_some}
use Rattle.tag_memory.specs.Cell.{Cell}
use Rattle.tag_memory.specs.Storage.{TaggedMemory}
use Rattle.replay_debugger.specs.Table.{onto_words, words_from, shown_word, with_address}

-- the words that are left after some
abbrev pub words_left : TaggedMemory → ℕ → ℕ → ℕ → Option (List (ℕ × Cell))
words_left m first count i = words_from m (first + 8 * i) (count - i)

-- the words behind some that were read
abbrev pub words_onto : List (ℕ × Cell) → Option (List (ℕ × Cell)) → Option (List (ℕ × Cell))
words_onto ws None = None
words_onto ws (Some rest) = Some (ws ++ rest)

one_left : (m : TaggedMemory) (first count i : ℕ) → i < count
    → words_left m first count i ≡ onto_words (first + 8 * i) (shown_word m (first + 8 * i))
    (words_left m first count (i + 1))
one_left m first count i below =
    let n : count - i ≡ suc (count - (i + 1)) = omega arith in
    let a : first + 8 * i + 8 ≡ first + 8 * (i + 1) = omega arith in
    ap (words_from m (first + 8 * i)) n
    ∙ ap (λ x. onto_words (first + 8 * i) (shown_word m (first + 8 * i)) (words_from m x (count - (i + 1)))) a

present : (a : ℕ) (w : ℕ × Cell) (c : Option Cell) → Some w ≡ with_address a c
    → (w.0 ≡ a) × (c ≡ Some w.1)
present a w None e = cc
present a w (Some d) e = (cc, cc)

-- where it stands there
words_next : (m : TaggedMemory) (first count i : ℕ) (w : ℕ × Cell) → i < count
    → Some w ≡ with_address (first + 8 * i) (shown_word m (first + 8 * i))
    → words_left m first count i ≡ onto_words w.0 (Some w.1) (words_left m first count (i + 1))
words_next m first count i w below there =
    let a = first + 8 * i in
    let is = present a w (shown_word m a) there in
    let rest = words_left m first count (i + 1) in
    one_left m first count i below ∙ (λ k. onto_words (sym is.0 k) (is.1 k) rest)

onto_is_some : (a : ℕ) (c : Cell) (x : Option (List (ℕ × Cell))) → is_some (onto_words a (Some c) x) ≡ is_some x
onto_is_some a c None = refl
onto_is_some a c (Some ws) = refl

pub is_some_next : (m : TaggedMemory) (first count i : ℕ) (w : ℕ × Cell) → i < count
    → Some w ≡ with_address (first + 8 * i) (shown_word m (first + 8 * i))
    → is_some (words_left m first count (i + 1)) ≡ is_some (words_left m first count i)
is_some_next m first count i w below there =
    sym (ap is_some (words_next m first count i w below there)
    ∙ onto_is_some w.0 w.1 (words_left m first count (i + 1)))

onto_shifts : (ws : List (ℕ × Cell)) (w : ℕ × Cell) (x : Option (List (ℕ × Cell)))
    → words_onto ws (onto_words w.0 (Some w.1) x) ≡ words_onto (ws ++ w ∷ []) x
onto_shifts ws w None = refl
onto_shifts ws w (Some rest) = ap (λ t. Some t) (sym (append_assoc ws (w ∷ []) rest))

pub words_shift : (m : TaggedMemory) (ws new : List (ℕ × Cell)) (first count i : ℕ) (w : ℕ × Cell) → i < count
    → Some w ≡ with_address (first + 8 * i) (shown_word m (first + 8 * i)) → new ≡ ws ++ w ∷ []
    → words_onto new (words_left m first count (i + 1)) ≡ words_onto ws (words_left m first count i)
words_shift m ws new first count i w below there is =
    let rest = words_left m first count (i + 1) in
    ap (λ t. words_onto t rest) is ∙ sym (onto_shifts ws w rest)
    ∙ sym (ap (words_onto ws) (words_next m first count i w below there))
