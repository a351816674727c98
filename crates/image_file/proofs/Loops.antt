-- Loops over parts one after another: lists that are filled with them, and searches for the first that fails.
use Rattle.std.proofs.Common.{◌≡◌, ℕ, ◌+◌, ◌-◌, ◌<◌, ◌≤◌, Bool, true, false, List, [], ◌∷◌, ◌++◌, drop}
use Rattle.std.proofs.Common.{Option, Some, None, if◌then◌else◌, refl, sym, ap, ◌∙◌, append_assoc, append-nil, arith}
use Rattle.std.specs.List.{position, position_from}
use Rattle.std.proofs.lemmas.Iterator.Adapters.{position_from-zero}
use Rattle.image_file.specs.Fields.{parts_of}
use Rattle.image_file.proofs.Searches.{skip}
use Rattle.image_file.proofs.Sequences.{parts_of-step, parts_of-end}

-- what stands in the list, and what is still to come, are all of it
pub fill_goes_on : {X : Type 0} (size : ℕ) (value : List ℕ → X) (count i : ℕ) (rest : List ℕ) (x : X)
    (front all : List X)
    → i < count → x ≡ value rest → front ++ parts_of size value (count - i) rest ≡ all
    → (front ++ x ∷ []) ++ parts_of size value (count - (i + 1)) (drop size rest) ≡ all
fill_goes_on size value count i rest x front all here is so_far =
    append_assoc front (x ∷ []) (parts_of size value (count - (i + 1)) (drop size rest))
    ∙ ap (λ y. front ++ y ∷ parts_of size value (count - (i + 1)) (drop size rest)) is
    ∙ sym (ap (λ xs. front ++ xs) (parts_of-step size value count i rest here))
    ∙ so_far

pub fill_ends : {X : Type 0} (size : ℕ) (value : List ℕ → X) (count i : ℕ) (rest : List ℕ) (front all : List X)
    → count ≤ i → front ++ parts_of size value (count - i) rest ≡ all → front ≡ all
fill_ends size value count i rest front all past so_far =
    sym (ap (λ xs. front ++ xs) (parts_of-end size value count i rest past) ∙ append-nil front) ∙ so_far

pub nothing_read : {X : Type 0} (size : ℕ) (value : List ℕ → X) (count : ℕ) (bytes : List ℕ)
    → parts_of size value (count - 0) bytes ≡ parts_of size value count bytes
nothing_read size value count bytes =
    let all : count - 0 ≡ count = omega arith in ap (λ k. parts_of size value k bytes) all

-- the place that the rest has is the place that all have
pub search_begins : {X : Type 0} (fails : X → Bool) (size : ℕ) (value : List ℕ → X) (count : ℕ) (bytes : List ℕ)
    → position_from fails 0 (parts_of size value (count - 0) bytes) ≡ position fails (parts_of size value count bytes)
search_begins fails size value count bytes =
    ap (position_from fails 0) (nothing_read size value count bytes)
    ∙ sym (position_from-zero fails (parts_of size value count bytes))

stop : (b : Bool) (i : ℕ) (later : Option ℕ) → b ≡ true → (if b then Some i else later) ≡ Some i
stop true i later e = refl
stop false i later e = absurd cc

pub search_stops : {X : Type 0} (fails : X → Bool) (size : ℕ) (value : List ℕ → X) (count i : ℕ) (rest : List ℕ)
    (all : Option ℕ) → i < count → fails (value rest) ≡ true
    → position_from fails i (parts_of size value (count - i) rest) ≡ all → Some i ≡ all
search_stops fails size value count i rest all here fits so_far =
    let later = position_from fails (i + 1) (parts_of size value (count - (i + 1)) (drop size rest)) in
    sym (stop (fails (value rest)) i later fits)
    ∙ sym (ap (position_from fails i) (parts_of-step size value count i rest here)) ∙ so_far

pub search_goes_on : {X : Type 0} (fails : X → Bool) (size : ℕ) (value : List ℕ → X) (count i : ℕ) (rest : List ℕ)
    (all : Option ℕ) → i < count → fails (value rest) ≡ false
    → position_from fails i (parts_of size value (count - i) rest) ≡ all
    → position_from fails (i + 1) (parts_of size value (count - (i + 1)) (drop size rest)) ≡ all
search_goes_on fails size value count i rest all here passes so_far =
    let later = position_from fails (i + 1) (parts_of size value (count - (i + 1)) (drop size rest)) in
    sym (skip (fails (value rest)) i later passes)
    ∙ sym (ap (position_from fails i) (parts_of-step size value count i rest here)) ∙ so_far

pub search_ends : {X : Type 0} (fails : X → Bool) (size : ℕ) (value : List ℕ → X) (count i : ℕ) (rest : List ℕ)
    (all : Option ℕ) → count ≤ i → position_from fails i (parts_of size value (count - i) rest) ≡ all → None ≡ all
search_ends fails size value count i rest all past so_far =
    sym (ap (position_from fails i) (parts_of-end size value count i rest past)) ∙ so_far

-- where none fails, the part in front does not
pub search_finds_none : {X : Type 0} (fails : X → Bool) (size : ℕ) (value : List ℕ → X) (count i : ℕ) (rest : List ℕ)
    → i < count → position_from fails i (parts_of size value (count - i) rest) ≡ None → fails (value rest) ≡ false
search_finds_none fails size value count i rest here none = by_test (fails (value rest)) refl where
  by_test : (b : Bool) → fails (value rest) ≡ b → b ≡ false
  by_test false e = refl
  by_test true e = absurd (let h = search_stops fails size value count i rest None here e none in cc)
