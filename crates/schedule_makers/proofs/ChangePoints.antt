-- The change points by two words of a generator.
use Rattle.std.proofs.Common.{◌≡◌, ℕ, ◌*◌, ◌/◌, ◌^◌, nat_lt, true, false, sym, ap, ◌∙◌, List, if◌then◌else◌}
use Rattle.rand_xoshiro.specs.SplitMix64.{splitmix_seed}
use Rattle.rand_xoshiro.specs.Xoshiro256.{of_seed, plus_plus}
use Rattle.schedule_makers.specs.Randomness.{generator_after, random_word}
use Rattle.schedule_makers.specs.Priorities.{change_point, is_second_earlier}
use Rattle.schedule_makers.specs.Changes.{HasChanges}

-- Two places were worked out by a seed's first two words.
pub record AreChanges (seed fair_steps first second : ℕ) : Type 0 where
  pub first_is : first ≡ change_point seed fair_steps 0
  pub second_is : second ≡ change_point seed fair_steps 1

pub two-words : (seed w0 w1 : ℕ) (g0 g1 g2 : List ℕ) → g0 ≡ of_seed (splitmix_seed 32 seed) → (w0, g1) ≡ plus_plus g0
    → (w1, g2) ≡ plus_plus g1 → (w0 ≡ random_word seed 0) × (w1 ≡ random_word seed 1)
unfolding random_word generator_after
two-words seed w0 w1 g0 g1 g2 begun one two =
    let first = one ∙ ap plus_plus begun in (
      ap (λ (x : ℕ × List ℕ). x.0) first,
      ap (λ (x : ℕ × List ℕ). x.0) (two ∙ ap (λ (x : ℕ × List ℕ). plus_plus x.1) first),
    )

pub are-changes : (seed fair_steps first second w0 w1 : ℕ) (g0 g1 g2 : List ℕ) → g0 ≡ of_seed (splitmix_seed 32 seed)
    → (w0, g1) ≡ plus_plus g0 → first ≡ w0 * fair_steps / 2 ^ 64 → (w1, g2) ≡ plus_plus g1
    → second ≡ w1 * fair_steps / 2 ^ 64 → AreChanges seed fair_steps first second
are-changes seed fair_steps first second w0 w1 g0 g1 g2 begun one at two behind =
    let words = two-words seed w0 w1 g0 g1 g2 begun one two in
    record {
      first_is = at ∙ ap (λ w. w * fair_steps / 2 ^ 64) words.0;
      second_is = behind ∙ ap (λ w. w * fair_steps / 2 ^ 64) words.1;
    }

pub turned : (seed fair_steps first second : ℕ) → AreChanges seed fair_steps first second → nat_lt second first ≡ true
    → HasChanges (record { seed = seed; fair_steps = fair_steps; earlier = second; later = first })
turned seed fair_steps first second are less =
    let is : true ≡ is_second_earlier seed fair_steps = sym less ∙ (λ i. nat_lt (are.second_is i) (are.first_is i)) in
    let zeroth = change_point seed fair_steps 0 in
    let next = change_point seed fair_steps 1 in
    record {
      earlier = are.second_is ∙ ap (λ b. if b then next else zeroth) is;
      later = are.first_is ∙ ap (λ b. if b then zeroth else next) is;
    }

pub in-order : (seed fair_steps first second : ℕ) → AreChanges seed fair_steps first second
    → nat_lt second first ≡ false
    → HasChanges (record { seed = seed; fair_steps = fair_steps; earlier = first; later = second })
in-order seed fair_steps first second are less =
    let is : false ≡ is_second_earlier seed fair_steps = sym less ∙ (λ i. nat_lt (are.second_is i) (are.first_is i)) in
    let zeroth = change_point seed fair_steps 0 in
    let next = change_point seed fair_steps 1 in
    record {
      earlier = are.first_is ∙ ap (λ b. if b then next else zeroth) is;
      later = are.second_is ∙ ap (λ b. if b then zeroth else next) is;
    }
