-- What is told of the seeds from a place on, where the runs of those before it are right.
use Rattle.std.proofs.Common.{◌≡◌, ℕ, ◌+◌, ◌-◌, ◌<◌, ◌≤◌, ◌⊎◌, inl, inr, refl, subst, arith, List, length, Option, Some, None}
use Rattle.std.specs.Prelude.{slice_get}
use Rattle.std.proofs.lemmas.Bool.{cases_lt}
use Rattle.std.proofs.lemmas.Option.{slice_get_within}
use Rattle.image_file.specs.ImageValue.{ImageValue}
use Rattle.expectations.specs.declared.expectation.Expectation.{Expectation}
use Rattle.claims.specs.declared.claim.Claim.{Claim}
use Rattle.seed_verdicts.specs.Seeds.{IsSeedTold, seed_at, AreToldFrom, AreRightBefore, IsFirstFlaw}
use Rattle.seed_verdicts.specs.declared.run_flaw.RunFlaw.{RunFlaw}
use Rattle.seed_verdicts.specs.declared.run_flaw.Seeds.{Seeds}

-- what is so below a number and of so many numbers from it on is so below their sum
below_sum : (P : ℕ → Type 0) (begin place : ℕ) → ((k : ℕ) → k < begin → P k)
    → ((k : ℕ) → k < place → P (begin + k)) → (k : ℕ) → k < begin + place → P k
below_sum P begin place below here k within = by (cases_lt k begin) where
  by : (k < begin) ⊎ (begin ≤ k) → P k
  by (inl less) = below k less
  by (inr most) =
      let same : begin + (k - begin) ≡ k = omega arith in
      subst P same (here (k - begin) (omega arith))

module _ (image : ImageValue) (expected : List Expectation) (claims : List Claim) (fair : ℕ) (seeds : Seeds)
    (begin end : ℕ) (told : List (Option RunFlaw))
    (known : AreToldFrom image expected claims fair seeds.most seeds.first begin end told)
    (right : AreRightBefore image expected claims fair seeds begin) where
  pub right_before : (place : ℕ) → ((k : ℕ) → k < place → slice_get told k ≡ Some None)
      → AreRightBefore image expected claims fair seeds (begin + place)
  right_before place none =
      below_sum (λ k. IsSeedTold image expected claims fair seeds.most (seed_at seeds.first k) None) begin place
      right (λ k within. known.each k None (none k within))

  pub all_right : ((k : ℕ) → k < length told → slice_get told k ≡ Some None)
      → AreRightBefore image expected claims fair seeds end
  all_right none =
      subst (AreRightBefore image expected claims fair seeds) known.count (right_before (length told) none)

  pub first_flaw_at : (place : ℕ) (flaw : RunFlaw) → end ≤ seeds.count → slice_get told place ≡ Some (Some flaw)
      → ((k : ℕ) → k < place → slice_get told k ≡ Some None)
      → IsFirstFlaw image expected claims fair seeds
      (record { seed = seed_at seeds.first (begin + place); flaw = flaw })
  first_flaw_at place flaw within there none =
      let inside = slice_get_within told place (Some flaw) there in record {
        place = begin + place;
        below = omega (arith, inside, known.count);
        seed = refl;
        flaw = known.each place (Some flaw) there;
        before = right_before place none;
      }
