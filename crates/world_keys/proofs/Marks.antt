-- A processor is told by its numbers, also by those of a table that was extended.
use Rattle.std.proofs.Common.{◌≡◌, ℕ, suc, ◌+◌, ◌<◌, ◌≤◌, Bool, true, false, refl, sym, ap, ◌∙◌, arith, subst}
use Rattle.std.proofs.Common.{List, [], ◌∷◌, ◌++◌, length, get_or, take, append-nil, append_assoc, cond, ◌⊎◌, inl, inr}
use Rattle.std.proofs.lemmas.Bool.{cases_lt}
use Rattle.std.proofs.lemmas.List.{take_more, length-take-le, get_or-take}
use Rattle.image_file.specs.ImageValue.{ImageValue}
use Rattle.stream_core.specs.Streams.{StreamValue, idle}
use Rattle.processor.specs.Processors.{ProcessorValue, is_idle, count_current}
use Rattle.world_keys.specs.Tables.{place_in, Has, Extends}
use Rattle.world_keys.specs.StreamNumbers.{stream_numbers}
use Rattle.world_keys.specs.WorldKeys.{stream_mark, stream_marks, processor_numbers, processor_place}
use Rattle.world_keys.specs.WorldKeys.{IsKnownIf, IsKnownStream, IsHeld, IsKnownProcessor}
use Rattle.world_keys.proofs.Places.{place_same, place_extended, has_extended}
use Rattle.world_keys.proofs.Digits.{numbered}
use Rattle.world_keys.proofs.Streams.{same_stream}

-- what the streams of a list hold is in the table
abbrev pub AreKnown : List (List ℕ) → List StreamValue → Type 0
AreKnown table ss = (k : ℕ) → k < length ss → IsKnownStream table (get_or ss k idle)

tail_known : (t : List (List ℕ)) (s : StreamValue) (ss : List StreamValue) → AreKnown t (s ∷ ss) → AreKnown t ss
tail_known t s ss known k below = known (suc k) (omega arith)

-- Streams are told by their marks.

past : (t : List (List ℕ)) (n : ℕ) (ss : List StreamValue) (a : ℕ) (rest : List ℕ) → stream_marks t n ss ≡ a ∷ rest
    → n ≤ a
unfolding stream_marks
past t n [] a rest is = absurd cc
past t n (s ∷ ss) a rest is =
    numbered (is_idle s) n a (place_in t (stream_numbers s) ∷ []) (stream_marks t (n + 1) ss) rest
    (past t (n + 1) ss a rest) is

pub same_streams : (t : List (List ℕ)) (n : ℕ) (ss us : List StreamValue) → length us ≡ length ss → AreKnown t ss
    → AreKnown t us → stream_marks t n ss ≡ stream_marks t n us → ss ≡ us
unfolding stream_marks
same_streams t n [] [] many one other same = refl
same_streams t n [] (u ∷ us) many one other same = absurd (omega arith)
same_streams t n (s ∷ ss) [] many one other same = absurd (omega arith)
same_streams t n (s ∷ ss) (u ∷ us) many one other same =
    by_idle
    (same_streams t (n + 1) ss us (omega arith) (tail_known t s ss one) (tail_known t u us other)) (is_idle s)
    (is_idle u) (one 0 (omega arith)) (other 0 (omega arith)) same where
      by_idle : (stream_marks t (n + 1) ss ≡ stream_marks t (n + 1) us → ss ≡ us) → (a b : Bool) → IsKnownIf t s a
          → IsKnownIf t u b
          → cond a [] (n ∷ place_in t (stream_numbers s) ∷ []) ++ stream_marks t (n + 1) ss
          ≡ cond b [] (n ∷ place_in t (stream_numbers u) ∷ []) ++ stream_marks t (n + 1) us
          → s ∷ ss ≡ u ∷ us
      by_idle others true true first second is =
          let here = first ∙ sym second in let rest = others is in λ i. here i ∷ rest i
      by_idle others true false first second is =
          let late = past t (n + 1) ss n (place_in t (stream_numbers u) ∷ stream_marks t (n + 1) us) is in
          absurd (omega arith)
      by_idle others false true first second is =
          let late = past t (n + 1) us n (place_in t (stream_numbers s) ∷ stream_marks t (n + 1) ss) (sym is) in
          absurd (omega arith)
      by_idle others false false first second is =
          let places : place_in t (stream_numbers s) ≡ place_in t (stream_numbers u) = cc in
          let tails : stream_marks t (n + 1) ss ≡ stream_marks t (n + 1) us = cc in
          let numbers = place_same t (stream_numbers s) (stream_numbers u) first.0 second.0 places in
          let here = same_stream s u first.1 second.1 numbers in
          let rest = others tails in
          λ i. here i ∷ rest i

-- Marks stay when the table is extended.

known_if_kept : (old new : List (List ℕ)) (s : StreamValue) (b : Bool) → Extends old new → IsKnownIf old s b
    → IsKnownIf new s b
known_if_kept old new s true grown known = known
known_if_kept old new s false grown known = (has_extended old new (stream_numbers s) grown known.0, known.1)

pub known_kept : (old new : List (List ℕ)) (s : StreamValue) → Extends old new → IsKnownStream old s
    → IsKnownStream new s
known_kept old new s grown known = known_if_kept old new s (is_idle s) grown known

mark_if_kept : (old new : List (List ℕ)) (n : ℕ) (s : StreamValue) (b : Bool) → Extends old new → IsKnownIf old s b
    → cond b [] (n ∷ place_in new (stream_numbers s) ∷ []) ≡ cond b [] (n ∷ place_in old (stream_numbers s) ∷ [])
mark_if_kept old new n s true grown known = refl
mark_if_kept old new n s false grown known =
    ap (λ k. n ∷ k ∷ []) (place_extended old new (stream_numbers s) grown known.0)

pub marks_kept : (old new : List (List ℕ)) (n : ℕ) (ss : List StreamValue) → Extends old new → AreKnown old ss
    → stream_marks new n ss ≡ stream_marks old n ss
unfolding stream_marks
marks_kept old new n [] grown known = refl
marks_kept old new n (s ∷ ss) grown known =
    let here = mark_if_kept old new n s (is_idle s) grown (known 0 (omega arith)) in
    let rest = marks_kept old new (n + 1) ss grown (tail_known old s ss known) in
    λ i. here i ++ rest i

-- One stream more.

marks-push : (t : List (List ℕ)) (n : ℕ) (ss : List StreamValue) (s : StreamValue)
    → stream_marks t n (ss ++ s ∷ []) ≡ stream_marks t n ss ++ stream_mark t (n + length ss) s
unfolding stream_marks
marks-push t n [] s =
    let same : n ≡ n + 0 = omega arith in append-nil (stream_mark t n s) ∙ ap (λ k. stream_mark t k s) same
marks-push t n (u ∷ us) s =
    let same : n + 1 + length us ≡ n + suc (length us) = omega arith in
    ap (λ x. stream_mark t n u ++ x) (marks-push t (n + 1) us s)
    ∙ sym (append_assoc (stream_mark t n u) (stream_marks t (n + 1) us) (stream_mark t (n + 1 + length us) s))
    ∙ ap (λ k. stream_mark t n u ++ stream_marks t (n + 1) us ++ stream_mark t k s) same

-- the streams before this one
abbrev pub AreKnownBelow : List (List ℕ) → List StreamValue → ℕ → Type 0
AreKnownBelow table ss n = (k : ℕ) → k < n → IsKnownStream table (get_or ss k idle)

taken : (t : List (List ℕ)) (ss : List StreamValue) (n : ℕ) → n ≤ length ss → AreKnownBelow t ss n
    → AreKnown t (take n ss)
taken t ss n within known k below =
    let less : k < n = omega (arith, length-take-le n ss within) in
    subst (IsKnownStream t) (sym (get_or-take n ss k idle less)) (known k less)

pub known_more : (old new : List (List ℕ)) (ss : List StreamValue) (n : ℕ) (s : StreamValue) → Extends old new
    → AreKnownBelow old ss n → s ≡ get_or ss n idle → IsKnownStream new s → AreKnownBelow new ss (n + 1)
known_more old new ss n s grown known is last k below = by_case (cases_lt k n) where
  by_case : (k < n) ⊎ (n ≤ k) → IsKnownStream new (get_or ss k idle)
  by_case (inl less) = known_kept old new (get_or ss k idle) grown (known k less)
  by_case (inr most) =
      let same : n ≡ k = omega arith in
      subst (λ j. IsKnownStream new (get_or ss j idle)) same (subst (IsKnownStream new) is last)

pub marks_more : (old new : List (List ℕ)) (ss : List StreamValue) (n first : ℕ) (s : StreamValue)
    (numbers more : List ℕ) → Extends old new → n < length ss → AreKnownBelow old ss n → s ≡ get_or ss n idle
    → numbers ≡ first ∷ stream_marks old 0 (take n ss) → more ≡ numbers ++ stream_mark new n s
    → more ≡ first ∷ stream_marks new 0 (take (n + 1) ss)
marks_more old new ss n first s numbers more grown below known at so_far is =
    let kept = marks_kept old new 0 (take n ss) grown (taken old ss n (omega arith) known) in
    let place : 0 + length (take n ss) ≡ n = omega (arith, length-take-le n ss (omega arith)) in
    let one : stream_marks new 0 (take (n + 1) ss) ≡ stream_marks new 0 (take n ss) ++ stream_mark new n s =
    ap (stream_marks new 0) (take_more ss n idle below)
    ∙ marks-push new 0 (take n ss) (get_or ss n idle)
    ∙ (λ i. stream_marks new 0 (take n ss) ++ stream_mark new (place i) (sym at i)) in
    is
    ∙ ap (λ x. x ++ stream_mark new n s) (so_far ∙ ap (λ x. first ∷ x) (sym kept))
    ∙ ap (λ x. first ∷ x) (sym one)

-- Processors.

pub held_kept : (old new : List (List ℕ)) (image : ImageValue) (proc : ProcessorValue) → Extends old new
    → IsHeld old image proc → IsHeld new image proc
held_kept old new image proc grown held = record {
  slim = held.slim;
  counts = held.counts;
  streams = λ n below. known_kept old new (get_or proc.streams n idle) grown (held.streams n below);
}

pub numbers_kept : (old new : List (List ℕ)) (image : ImageValue) (proc : ProcessorValue) → Extends old new
    → IsHeld old image proc → processor_numbers new proc ≡ processor_numbers old proc
numbers_kept old new image proc grown held =
    ap (λ x. proc.sres ∷ x) (marks_kept old new 0 proc.streams grown held.streams)

pub processor_kept : (old new : List (List ℕ)) (image : ImageValue) (proc : ProcessorValue) → Extends old new
    → IsKnownProcessor old image proc → IsKnownProcessor new image proc
processor_kept old new image proc grown known = record {
  held = held_kept old new image proc grown known.held;
  numbers =
      subst (Has new) (sym (numbers_kept old new image proc grown known.held))
      (has_extended old new (processor_numbers old proc) grown known.numbers);
}

pub place_kept : (old new : List (List ℕ)) (image : ImageValue) (proc : ProcessorValue) → Extends old new
    → IsKnownProcessor old image proc → processor_place new proc ≡ processor_place old proc
place_kept old new image proc grown known =
    ap (place_in new) (numbers_kept old new image proc grown known.held)
    ∙ place_extended old new (processor_numbers old proc) grown known.numbers

pub same_processor : (t : List (List ℕ)) (image : ImageValue) (a b : ProcessorValue) → IsKnownProcessor t image a
    → IsKnownProcessor t image b → processor_place t a ≡ processor_place t b → a ≡ b
same_processor t image a b one other same =
    let numbers : processor_numbers t a ≡ processor_numbers t b =
    place_same t (processor_numbers t a) (processor_numbers t b) one.numbers other.numbers same in
    let reserved : a.sres ≡ b.sres = cc in
    let marks : stream_marks t 0 a.streams ≡ stream_marks t 0 b.streams = cc in
    let streams =
    same_streams t 0 a.streams b.streams (other.held.slim ∙ sym one.held.slim) one.held.streams other.held.streams
    marks in
    let current = one.held.counts ∙ ap count_current streams ∙ sym other.held.counts in
    λ i. record { streams = streams i; scur = current i; sres = reserved i }
