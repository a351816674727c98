-- The last of the numbers that pass a test, below one and up to it.
use Rattle.std.proofs.Common.{◌≡◌, ℕ, ◌+◌, ◌<◌, Bool, true, false, ap, ◌∙◌, arith, inl, inr}
use Rattle.std.proofs.Common.{Option, Some, None}
use Rattle.std.proofs.lemmas.Bool.{cases_lt}
use Rattle.replay_debugger.specs.StopFinders.{IsLastBelow}

pub last_passes : (test : ℕ → Bool) (n : ℕ) → test n ≡ true → IsLastBelow test (n + 1) (Some n)
last_passes test n passes = record {
  below = omega arith;
  passes = passes;
  greatest = λ j above below. absurd (omega (arith, above, below));
}

fails_up_to : (test : ℕ → Bool) (n j : ℕ) → test n ≡ false → (j < n → test j ≡ false) → j < n + 1 → test j ≡ false
fails_up_to test n j fails before below = elim (cases_lt j n) [
  | inl sooner ↦ before sooner
  | inr later ↦ let same : j ≡ n = omega (arith, later, below) in ap test same ∙ fails
]

pub last_fails : (test : ℕ → Bool) (n : ℕ) (last : Option ℕ) → test n ≡ false → IsLastBelow test n last
    → IsLastBelow test (n + 1) last
last_fails test n None fails none = λ j below. fails_up_to test n j fails (none j) below
last_fails test n (Some k) fails is =
    let under = is.below in
    record {
      below = omega (arith, under);
      passes = is.passes;
      greatest = λ j above below. fails_up_to test n j fails (is.greatest j above) below;
    }
