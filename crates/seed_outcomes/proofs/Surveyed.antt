-- The outcomes of the seeds before a place, with those of the next one, and with those of the next part.
use Rattle.std.proofs.Common.{◌≡◌, ℕ, ◌+◌, ◌-◌, ◌<◌, ◌≤◌, ◌^◌, sym, ap, ◌∙◌, subst, arith}
use Rattle.std.proofs.Common.{List, [], ◌∷◌, ◌++◌}
use Rattle.std.proofs.lemmas.List.Elements.{All-cons, All-nil}
use Rattle.space_ends.specs.SeedVerdicts.Seeds.{seed_at}
use Rattle.seed_outcomes.specs.Sharing.{AreShared}
use Rattle.seed_outcomes.specs.SeedLists.{seeds_between}
use Rattle.seed_outcomes.specs.SeedRuns.{SurveyedProgram, IsSeedRun, EndsSo}
use Rattle.seed_outcomes.specs.Outcomes.{CountsSeeds, AreOutcomes, runs_in_all}
use Rattle.seed_outcomes.specs.Adding.{IsAdded, AreAdded}
use Rattle.seed_outcomes.specs.declared.outcomes.SeedOutcome.{SeedOutcome}
use Rattle.seed_outcomes.proofs.SeedLists.{between_length, between_both, between_none, between_one}
use Rattle.seed_outcomes.proofs.Added.{no_outcomes, runs_of, one_added, all_added}

module _ (p : SurveyedProgram) (first : ℕ) where
  counts_one : (seed : ℕ) (o : SeedOutcome) → o.seed ≡ seed → o.runs ≡ 1
      → IsSeedRun p seed o.steps o.judgement o.state → CountsSeeds p o (seed ∷ [])
  counts_one seed o is runs run = record {
    runs = runs;
    first = (0, omega arith, sym is);
    run = subst (λ s. IsSeedRun p s o.steps o.judgement o.state) (sym is) run;
    each = All-cons (EndsSo p o.judgement o.state) seed [] (o.steps, run) (All-nil (EndsSo p o.judgement o.state));
  }

  pub none_yet : (begin : ℕ) → AreOutcomes p (seeds_between first begin begin) []
  none_yet begin = subst (λ (l : List ℕ). AreOutcomes p l []) (between_none first begin) (no_outcomes p)

  pub next_seed : (begin place : ℕ) (known new : List SeedOutcome) (o : SeedOutcome) → begin ≤ place → place < 2 ^ 64 - 1
      → AreOutcomes p (seeds_between first begin place) known → o.seed ≡ seed_at first place → o.runs ≡ 1
      → IsSeedRun p (seed_at first place) o.steps o.judgement o.state → IsAdded known o new
      → AreOutcomes p (seeds_between first begin (place + 1)) new
  next_seed begin place known new o low room all is runs run added =
      let long = between_length first begin place in
      let one : place ≤ place + 1 = omega arith in
      subst (λ (l : List ℕ). AreOutcomes p l new)
      (ap (λ (l : List ℕ). seeds_between first begin place ++ l) (between_one first place)
      ∙ between_both first begin place (place + 1) low one)
      (one_added p (seeds_between first begin place) (seed_at first place ∷ []) known new o all
      (counts_one (seed_at first place) o is runs run) (omega (arith, long, room)) added)

  pub next_seeds : (begin end : ℕ) (known found new : List SeedOutcome) → begin ≤ end → end < 2 ^ 64
      → AreOutcomes p (seeds_between first 0 begin) known
      → AreShared (CountsSeeds p) (seeds_between first begin end) found → AreAdded known found new
      → AreOutcomes p (seeds_between first 0 end) new
  next_seeds begin end known found new low room all shares added =
      let long = between_length first 0 begin in
      let more = between_length first begin end in
      let none : 0 ≤ begin = omega arith in
      subst (λ (l : List ℕ). AreOutcomes p l new) (between_both first 0 begin end none low)
      (all_added p known found new added (seeds_between first 0 begin) (seeds_between first begin end) all shares
      (omega (arith, long, more, room, low)))

  pub all_counted : (count : ℕ) (os : List SeedOutcome) → AreOutcomes p (seeds_between first 0 count) os
      → runs_in_all os ≡ count
  all_counted count os all =
      let long = between_length first 0 count in
      let runs = runs_of p (seeds_between first 0 count) os all in
      omega (arith, long, runs)
