-- Outcomes of more seeds are added to those that are known.
use Rattle.std.proofs.Common.{◌≡◌, ℕ, ◌+◌, ◌<◌, ◌≤◌, ◌^◌, refl, sym, ap, ◌∙◌, subst, arith, inl, inr}
use Rattle.std.proofs.Common.{List, [], ◌∷◌, ◌++◌, length, set, Some, append_assoc, length-append}
use Rattle.std.specs.Prelude.{slice_get, IsPermutation}
use Rattle.std.proofs.lemmas.List.{append-nil}
use Rattle.std.proofs.lemmas.List.Elements.{All-append, Contains-append_left}
use Rattle.std.proofs.lemmas.List.Sorted.{IsPermutation-sym, IsPermutation-trans, length_permutation}
use Rattle.std.proofs.lemmas.List.Sorted.{IsPermutation-append_right}
use Rattle.seed_outcomes.specs.Sharing.{AreShared, none}
use Rattle.seed_outcomes.specs.SeedRuns.{SurveyedProgram, EndsSo}
use Rattle.seed_outcomes.specs.Outcomes.{AreOfOneLine, CountsSeeds, AreOutcomes, runs_in_all}
use Rattle.seed_outcomes.specs.Adding.{IsCountedIn, IsPushed, IsAdded, AreAdded, to_known, at_end, same, more}
use Rattle.seed_outcomes.specs.declared.outcomes.SeedOutcome.{SeedOutcome}
use Rattle.seed_outcomes.proofs.Shares.{in_other_order, shared_both, shared_one, with_more, all_shared, holder_at, last_shared}
use Rattle.seed_outcomes.proofs.Shares.{same_lists}
use Rattle.seed_outcomes.proofs.Places.{from_set, from_push}
use Rattle.seed_outcomes.proofs.Lines.{line_self, line_sym, line_trans, ends_by_line}

pub added_both : (known mid new xs ys : List SeedOutcome) → AreAdded known xs mid → AreAdded mid ys new
    → AreAdded known (xs ++ ys) new
added_both known mid new xs [] first same = subst (λ (l : List SeedOutcome). AreAdded known l mid) (sym (append-nil xs)) first
added_both known mid new xs ys first (more {os = os} {mid = last} {o = o} added one) =
    subst (λ (l : List SeedOutcome). AreAdded known l new) (append_assoc xs os (o ∷ []))
    (more (added_both known mid last xs os first added) one)

module _ (p : SurveyedProgram) where
  pub no_outcomes : AreOutcomes p [] []
  no_outcomes = record { shares = none; distinct = λ j k one other at_j at_k line. absurd (let h : ⊥ = cc in h) }

  pub in_order_of : (seeds others : List ℕ) (os : List SeedOutcome) → AreOutcomes p seeds os
      → IsPermutation seeds others → AreOutcomes p others os
  in_order_of seeds others os all order =
      record { shares = in_other_order others all.shares order; distinct = all.distinct }

  pub runs_of : (seeds : List ℕ) (os : List SeedOutcome) → AreOutcomes p seeds os → runs_in_all os ≡ length seeds
  runs_of seeds os all = all_shared (λ (o : SeedOutcome). o.runs) (λ o share counts. counts.runs) all.shares

  few_runs : (seeds : List ℕ) (os : List SeedOutcome) (k : ℕ) (o : SeedOutcome) → AreOutcomes p seeds os
      → slice_get os k ≡ Some o → o.runs ≤ length seeds
  few_runs seeds os k o all there =
      let h = holder_at k o all.shares there in
      let whole = length_permutation seeds (h.share ++ h.rest) h.all in
      let parts = length-append h.share h.rest in
      let runs = h.is.runs in
      omega (arith, whole, parts, runs)

  -- an outcome counts what another of its line does too
  counts_both : (old o : SeedOutcome) (runs : ℕ) (ours theirs : List ℕ) → AreOfOneLine old o → runs ≡ old.runs + o.runs
      → CountsSeeds p old ours → CountsSeeds p o theirs → CountsSeeds p (record old { runs = runs }) (ours ++ theirs)
  counts_both old o runs ours theirs line sum mine yours = record {
    runs =
        let parts = length-append ours theirs in
        let one = mine.runs in
        let other = yours.runs in
        omega (arith, parts, one, other, sum);
    first = Contains-append_left ours theirs old.seed mine.first;
    run = mine.run;
    each =
        All-append (EndsSo p old.judgement old.state) ours theirs mine.each
        (λ k d within. ends_by_line p old o _ line (yours.each k d within));
  }

  with_counted : (before share : List ℕ) (known new : List SeedOutcome) (o : SeedOutcome) → AreOutcomes p before known
      → CountsSeeds p o share → length before + length share < 2 ^ 64 → IsCountedIn known o new
      → AreOutcomes p (before ++ share) new
  with_counted before share known new o all counts room c =
      let few = few_runs before known c.place c.old all c.there in
      let mine = counts.runs in
      let sum : c.runs ≡ c.old.runs + o.runs = c.sum (omega (arith, few, mine, room)) in
      let changed : SeedOutcome = record c.old { runs = c.runs } in
      subst (λ (l : List SeedOutcome). AreOutcomes p (before ++ share) l) (sym c.is)
      (record {
        shares =
            with_more share c.place c.old changed all.shares c.there
            (λ ours holds. counts_both c.old o c.runs ours share c.line sum holds counts);
        distinct = λ j k one other at_j at_k line.
            let first = as_before changed refl j one at_j in
            let second = as_before changed refl k other at_k in
            all.distinct j k first.0 second.0 first.1 second.1
            (line_trans first.0 one second.0 first.2 (line_trans one other second.0 line (line_sym second.0 other second.2)));
      }) where
        as_before : (changed : SeedOutcome) → record c.old { runs = c.runs } ≡ changed → (j : ℕ) (one : SeedOutcome)
            → slice_get (set known c.place changed) j ≡ Some one
            → (x : SeedOutcome) × (slice_get known j ≡ Some x) × AreOfOneLine x one
        as_before changed is j one at =
            elim (from_set known c.place j changed one at) [
              | inl here ↦ (
                c.old,
                ap (slice_get known) here.0 ∙ c.there,
                subst (λ (y : SeedOutcome). AreOfOneLine c.old y) (is ∙ here.1) (of_line c.old c.runs),
              )
              | inr old ↦ (one, old, line_self one)
            ] where
              of_line : (old : SeedOutcome) (runs : ℕ) → AreOfOneLine old (record old { runs = runs })
              of_line old runs =
                  record { judgement = refl; state = record { stopped = refl; waiting = refl; changed = refl } }

  with_pushed : (before share : List ℕ) (known new : List SeedOutcome) (o : SeedOutcome) → AreOutcomes p before known
      → CountsSeeds p o share → IsPushed known o new → AreOutcomes p (before ++ share) new
  with_pushed before share known new o all counts c =
      subst (λ (l : List SeedOutcome). AreOutcomes p (before ++ share) l) (sym c.is)
      (record {
        shares = shared_both all.shares (shared_one counts);
        distinct = λ j k one other at_j at_k line.
            elim (from_push known j one o at_j) [
              | inl old_j ↦
                  elim (from_push known k other o at_k) [
                    | inl old_k ↦ all.distinct j k one other old_j old_k line
                    | inr last_k ↦
                        absurd (c.none j one old_j
                        (subst (λ (y : SeedOutcome). AreOfOneLine one y) (sym last_k.1) line))
                  ]
              | inr last_j ↦
                  elim (from_push known k other o at_k) [
                    | inl old_k ↦
                        absurd (c.none k other old_k
                        (line_sym o other (subst (λ (y : SeedOutcome). AreOfOneLine y other) (sym last_j.1) line)))
                    | inr last_k ↦ last_j.0 ∙ sym last_k.0
                  ]
            ];
      })

  pub one_added : (before share : List ℕ) (known new : List SeedOutcome) (o : SeedOutcome) → AreOutcomes p before known
      → CountsSeeds p o share → length before + length share < 2 ^ 64 → IsAdded known o new
      → AreOutcomes p (before ++ share) new
  one_added before share known new o all counts room (to_known c) =
      with_counted before share known new o all counts room c
  one_added before share known new o all counts room (at_end c) = with_pushed before share known new o all counts c

  pub all_added : (known found new : List SeedOutcome) → AreAdded known found new → (before seeds : List ℕ)
      → AreOutcomes p before known → AreShared (CountsSeeds p) seeds found → length before + length seeds < 2 ^ 64
      → AreOutcomes p (before ++ seeds) new
  all_added known [] new same before [] all none room =
      subst (λ (l : List ℕ). AreOutcomes p l known) (sym (append-nil before)) all
  all_added known [] new same before (s ∷ ss) all shares room = elim shares [ ]
  all_added known found new (more {os = os} {mid = mid} {o = o} added one) before seeds all shares room =
      let last = last_shared os o seeds shares in
      let whole = length_permutation seeds (last.before ++ last.share) last.all in
      let parts = length-append last.before last.share in
      let both = length-append before last.before in
      let most = all_added known os mid added before last.before all last.others (omega (arith, whole, parts, room)) in
      let next = one_added (before ++ last.before) last.share mid new o most last.is
      (omega (arith, whole, parts, both, room)) one in
      in_order_of _ (before ++ seeds) new next
      (IsPermutation-trans _ _ _ (same_lists _ _ (append_assoc before last.before last.share))
      (IsPermutation-append_right before (last.before ++ last.share) seeds (IsPermutation-sym seeds _ last.all)))
