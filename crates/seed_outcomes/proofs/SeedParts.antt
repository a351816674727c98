-- The seeds of all parts are those from one place to another.
use Rattle.std.proofs.Common.{◌≡◌, ℕ, suc, ◌+◌, ◌-◌, ◌*◌, ◌≤◌, refl, sym, ap, ◌∙◌, subst, arith}
use Rattle.std.proofs.Common.{List, [], ◌∷◌, length, Some, Vec, Global}
use Rattle.std.specs.Prelude.{slice_get}
use Rattle.seed_outcomes.specs.Sharing.{AreShared, none}
use Rattle.seed_outcomes.specs.SeedLists.{seeds_between}
use Rattle.seed_outcomes.specs.SeedRuns.{SurveyedProgram}
use Rattle.seed_outcomes.specs.Outcomes.{CountsSeeds, AreOutcomes}
use Rattle.seed_outcomes.specs.Parts.{part_begin, part_end, all_outcomes}
use Rattle.seed_outcomes.specs.declared.outcomes.SeedOutcome.{SeedOutcome}
use Rattle.seed_outcomes.proofs.Shares.{shared_both}
use Rattle.seed_outcomes.proofs.SeedLists.{between_both, between_none}

module _ (begin end size : ℕ) where
  next_begin : (k : ℕ) → part_end begin end size k ≡ part_begin begin end size (k + 1)
  next_begin k = let e : (k + 1) * size ≡ k * size + size = grind arith in omega (arith, e)

  later_begin : (k n : ℕ) → part_begin begin end size k ≤ part_begin begin end size (k + n)
  later_begin k n = let e : (k + n) * size ≡ k * size + n * size = grind arith in omega (arith, e)

  first_begin : begin ≤ end → part_begin begin end size 0 ≡ begin
  first_begin low = omega arith

  last_begin : (n : ℕ) → end - begin ≤ n * size → begin ≤ end → part_begin begin end size n ≡ end
  last_begin n all low = omega arith

module _ (p : SurveyedProgram) (first begin end size : ℕ) where
  shared_from : (parts : List (Vec SeedOutcome Global)) (k : ℕ)
      → ((i : ℕ) (v : Vec SeedOutcome Global) → slice_get parts i ≡ Some v
      → AreOutcomes p (seeds_between first (part_begin begin end size (k + i)) (part_end begin end size (k + i))) v.items)
      → AreShared (CountsSeeds p)
      (seeds_between first (part_begin begin end size k) (part_begin begin end size (k + length parts))) (all_outcomes parts)
  shared_from [] k each =
      let e : k ≡ k + 0 = omega arith in
      subst (λ (l : List ℕ). AreShared (CountsSeeds p) l [])
      (between_none first (part_begin begin end size k)
      ∙ ap (λ n. seeds_between first (part_begin begin end size k) (part_begin begin end size n)) e) none
  shared_from (v ∷ vs) k each =
      let b = part_begin begin end size in
      let e : k ≡ k + 0 = omega arith in
      let here : AreOutcomes p (seeds_between first (b k) (part_end begin end size k)) v.items =
      subst (λ n. AreOutcomes p (seeds_between first (b n) (part_end begin end size n)) v.items) (sym e) (each 0 v refl) in
      let head : AreOutcomes p (seeds_between first (b k) (b (k + 1))) v.items =
      subst (λ n. AreOutcomes p (seeds_between first (b k) n) v.items) (next_begin begin end size k) here in
      let rest = shared_from vs (k + 1) (λ i w there.
      let i_is : k + suc i ≡ k + 1 + i = omega arith in
      subst (λ n. AreOutcomes p (seeds_between first (b n) (part_end begin end size n)) w.items) i_is (each (suc i) w there)) in
      let n_is : k + 1 + length vs ≡ k + suc (length vs) = omega arith in
      subst (λ (l : List ℕ). AreShared (CountsSeeds p) l (all_outcomes (v ∷ vs)))
      (between_both first (b k) (b (k + 1)) (b (k + 1 + length vs)) (later_begin begin end size k 1)
      (later_begin begin end size (k + 1) (length vs))
      ∙ ap (λ n. seeds_between first (b k) (b n)) n_is)
      (shared_both head.shares rest)

  pub shared_parts : (parts : List (Vec SeedOutcome Global)) (n : ℕ) → length parts ≡ n → end - begin ≤ n * size
      → begin ≤ end
      → ((i : ℕ) (v : Vec SeedOutcome Global) → slice_get parts i ≡ Some v
      → AreOutcomes p (seeds_between first (part_begin begin end size i) (part_end begin end size i)) v.items)
      → AreShared (CountsSeeds p) (seeds_between first begin end) (all_outcomes parts)
  shared_parts parts n count all low each =
      let b = part_begin begin end size in
      let shared = shared_from parts 0 (λ i v there.
      let e : i ≡ 0 + i = omega arith in
      subst (λ m. AreOutcomes p (seeds_between first (b m) (part_end begin end size m)) v.items) e (each i v there)) in
      let z : 0 + length parts ≡ n = omega (arith, count) in
      let last : b (0 + length parts) ≡ end = ap b z ∙ last_begin begin end size n all low in
      subst (λ m. AreShared (CountsSeeds p) (seeds_between first m end) (all_outcomes parts)) (first_begin begin end size low)
      (subst (λ m. AreShared (CountsSeeds p) (seeds_between first (b 0) m) (all_outcomes parts)) last shared)
