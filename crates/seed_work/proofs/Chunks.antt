-- What is known of the seeds from a place on, where the runs of those before it meet all lines.
use Rattle.std.proofs.Common.{◌≡◌, ℕ, ◌+◌, ◌-◌, ◌<◌, ◌≤◌, ◌⊎◌, inl, inr, refl, sym, subst, arith, List, length, Option, Some, None}
use Rattle.std.specs.Prelude.{slice_get}
use Rattle.std.proofs.lemmas.Bool.{cases_lt}
use Rattle.std.proofs.lemmas.Option.{slice_get_within}
use Rattle.image_file.specs.ImageValue.{ImageValue}
use Rattle.seed_verdicts.specs.Seeds.{seed_at}
use Rattle.seed_verdicts.specs.declared.run_flaw.Seeds.{Seeds}
use Rattle.work_rules.specs.declared.work_rule.WorkRule.{WorkRule}
use Rattle.seed_work.specs.SeedWork.{MeetsAll, IsSeedWork, AreKnownFrom, MeetAllBefore, IsFirstMissed}
use Rattle.seed_work.specs.declared.missed_work.MissedWork.{MissedWork}

-- what is so below a number and of so many numbers from it on is so below their sum
below_sum : (P : ℕ → Type 0) (begin place : ℕ) → ((k : ℕ) → k < begin → P k)
    → ((k : ℕ) → k < place → P (begin + k)) → (k : ℕ) → k < begin + place → P k
below_sum P begin place below here k within = by (cases_lt k begin) where
  by : (k < begin) ⊎ (begin ≤ k) → P k
  by (inl less) = below k less
  by (inr most) =
      let same : begin + (k - begin) ≡ k = omega arith in
      subst P same (here (k - begin) (omega arith))

module _ (image : ImageValue) (rules : List WorkRule) (fair : ℕ) (seeds : Seeds) (begin end : ℕ)
    (found : List (Option MissedWork)) (known : AreKnownFrom image rules fair seeds.most seeds.first begin end found)
    (meets : MeetAllBefore image rules fair seeds begin) where
  pub meet_before : (place : ℕ) → ((k : ℕ) → k < place → slice_get found k ≡ Some None)
      → MeetAllBefore image rules fair seeds (begin + place)
  meet_before place none =
      below_sum (λ k. MeetsAll image rules fair seeds.most (seed_at seeds.first k)) begin place
      meets (λ k within. known.each k None (none k within))

  pub all_meet : ((k : ℕ) → k < length found → slice_get found k ≡ Some None)
      → MeetAllBefore image rules fair seeds end
  all_meet none = subst (MeetAllBefore image rules fair seeds) known.count (meet_before (length found) none)

  pub first_missed_at : (place : ℕ) (missed : MissedWork) → end ≤ seeds.count
      → slice_get found place ≡ Some (Some missed) → ((k : ℕ) → k < place → slice_get found k ≡ Some None)
      → IsFirstMissed image rules fair seeds missed
  first_missed_at place missed within there none =
      let inside = slice_get_within found place (Some missed) there in
      let here = known.each place (Some missed) there in
      record {
        place = begin + place;
        below = omega (arith, inside, known.count);
        seed = here.0;
        missed =
            subst (λ s. IsSeedWork image rules fair seeds.most s missed.end (Some missed.rule)) (sym here.0) here.1;
        before = meet_before place none;
      }
