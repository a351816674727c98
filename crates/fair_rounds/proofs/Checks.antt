-- What the checks of some edges say: a walk, and that each stream gets what it is due.
use Rattle.std.proofs.Common.{◌≡◌, ◌⊎◌, inl, inr, ℕ, ◌+◌, ◌<◌, ◌≤◌, refl, sym, ap, ◌∙◌, subst, arith, eqb-true, eq-eqb, Bool, true, false}
use Rattle.std.proofs.Common.{◌&&◌, ◌||◌, not, ◌==◌, List, [], ◌∷◌, map, length, drop, slice_index_or, Contains}
use Rattle.std.specs.List.{list_any, All}
use Rattle.std.proofs.lemmas.Bool.{cases_lt, and_parts, and_left, and_right, or_cases}
use Rattle.std.proofs.lemmas.List.{drop_more, drop_all, get_or_default}
use Rattle.std.proofs.lemmas.List.Elements.{All-head, All-tail}
use Rattle.processor.specs.declared.steps.Step.{Step}
use Rattle.fair_rounds.specs.declared.graphs.Edge.{Edge}
use Rattle.fair_rounds.specs.declared.graphs.Standing.{Standing}
use Rattle.fair_rounds.specs.Rounds.{IsIn, IsWalk, IsRound, IsFairByWords, IsFairBySteps, Passes, Steps, Completes, Runs, CanComplete}
use Rattle.fair_rounds.specs.Classes.{is_step, is_inside, is_of, is_done_of, AreMarksAt}
use Rattle.fair_rounds.specs.Checks.{walks, runs_here, is_gap, is_met, from_of, MeetsAll}
use Rattle.fair_rounds.proofs.Walks.{start_passed, walk_on}
use Rattle.fair_rounds.proofs.Removal.{below_of}
use Rattle.fair_rounds.proofs.Lists.{same_step, step_same, any_found, any_here, mapped}

module _ (edges : List Edge) (set : List Bool) where
  pub walk_by : (es : List Edge) (from to : ℕ) → All (Contains edges) es → walks set from es to ≡ true
      → IsWalk edges set from es to
  walk_by [] from to all is = eqb-true from to is
  walk_by (e ∷ es) from to all is =
      let two = and_parts ((e.from == from) && is_inside set e) (walks set e.to es to) is in
      let one = and_parts (e.from == from) (is_inside set e) two.0 in
      let ends = and_parts (slice_index_or set e.from false) (slice_index_or set e.to false) one.1 in
      let at : e.from ≡ from = eqb-true e.from from one.0 in (
        record {
          there = All-head (Contains edges) e es all;
          from_is = at;
          from_in = subst (IsIn set) at ends.0;
          to_in = ends.1;
        },
        walk_by es e.to to (All-tail (Contains edges) e es all) two.1,
      )

done_by : (who : Step) (round : List Edge) → list_any (is_done_of who) round ≡ true → Completes round who
done_by who round is =
    let got = any_found (is_done_of who) round is in
    let each = and_parts (is_step who got.0.step) got.0.completes got.2 in
    (got.0, got.1, same_step who got.0.step each.0, each.1)

step_by : (who : Step) (round : List Edge) → list_any (is_of who) round ≡ true → Steps round who
step_by who round is =
    let got = any_found (is_of who) round is in
    (got.0, got.1, same_step who got.0.step got.2)

module _ (standings : List Standing) (round : List Edge) where
  gap_by : (who : Step) → list_any (is_gap standings who) round ≡ true → ((k : ℕ) → Passes round k → Runs standings k who) → ⊥
  gap_by who is throughout =
      let got = any_found (is_gap standings who) round is in
      let runs = throughout got.0.from (got.0, got.1, refl) in
      let at : (runs.0.place == got.0.from) ≡ true = eq-eqb runs.0.place got.0.from runs.2 in
      let mine = step_same who runs.0.step runs.3 in
      let here = any_here (runs_here got.0.from who) standings runs.0 runs.1 (λ i. at i && mine i) in
      let both : not true ≡ true = ap not (sym here) ∙ got.2 in
      let off : ⊥ = cc in
      off

  word_met : (s : Standing) → is_met round standings s ≡ true → s.can_complete ≡ true → Completes round s.step
  word_met s is can =
      let each = and_parts (not s.can_complete || list_any (is_done_of s.step) round)
      (list_any (is_of s.step) round || list_any (is_gap standings s.step) round) is in
      elim (or_cases (not s.can_complete) (list_any (is_done_of s.step) round) each.0) [
        | inl never ↦ let both : not true ≡ true = ap not (sym can) ∙ never in let off : ⊥ = cc in absurd off
        | inr done ↦ done_by s.step round done
      ]

  step_met : (s : Standing) → is_met round standings s ≡ true → ((k : ℕ) → Passes round k → Runs standings k s.step)
      → Steps round s.step
  step_met s is throughout =
      let each = and_parts (not s.can_complete || list_any (is_done_of s.step) round)
      (list_any (is_of s.step) round || list_any (is_gap standings s.step) round) is in
      elim (or_cases (list_any (is_of s.step) round) (list_any (is_gap standings s.step) round) each.1) [
        | inl own ↦ step_by s.step round own
        | inr gap ↦ absurd (gap_by s.step gap throughout)
      ]

-- a walk that is closed, with what each stream is due, is a fair round
module _ (edges : List Edge) (standings : List Standing) (set marks : List Bool) (place : ℕ) (round : List Edge) where
  fair_by : IsRound edges set place round → AreMarksAt (length set) (map from_of round) marks
      → MeetsAll round standings marks → IsFairByWords standings round
  fair_by around are meets = record { steps = steps; words = words } where
    marked : (k : ℕ) → Passes round k → IsIn marks k
    marked k passed =
        let on = walk_on edges set round place place passed.0 around.walk passed.1 in
        let inside = below_of set passed.0.from on.is.from_in in
        subst (IsIn marks) passed.2
        (are.all passed.0.from (mapped from_of round passed.0 passed.1) inside)

    met : (s : Standing) → Contains standings s → (k : ℕ) → Passes round k → s.place ≡ k → is_met round standings s ≡ true
    met s there k passed at = meets s there (subst (IsIn marks) (sym at) (marked k passed))

    steps : IsFairBySteps standings round
    steps who throughout =
        let start = start_passed edges set round place place around.walk around.some in
        let s = throughout place start in
        let is = met s.0 s.1 place start s.2 in
        let got = step_met standings round s.0 is (λ k passes. subst (Runs standings k) (sym s.3) (throughout k passes)) in
        (got.0, got.1, got.2 ∙ s.3)

    words : (k : ℕ) (who : Step) → Passes round k → CanComplete standings k who → Completes round who
    words k who passed can =
        let got = word_met standings round can.0 (met can.0 can.1 k passed can.2) can.4 in
        (got.0, got.1, got.2 ∙ can.3, got.3)

  pub shown_by : All (Contains edges) round → 0 < length round → walks set place round place ≡ true
      → AreMarksAt (length set) (map from_of round) marks → MeetsAll round standings marks
      → IsRound edges set place round × IsFairByWords standings round
  shown_by all some is are meets = (around, fair_by around are meets) where
    around : IsRound edges set place round
    around = record { walk = walk_by edges set round place place all is; some = some }

-- The walk that is left.

abbrev pub no_edge : Edge
no_edge = record { from = 0; step = record { p = 0; s = 0 }; completes = false; to = 0 }

abbrev pub no_standing : Standing
no_standing = record { place = 0; step = record { p = 0; s = 0 }; can_complete = false }

module _ (set : List Bool) (es : List Edge) (n here to : ℕ) (within : n < length es) where
  abbrev next : Edge
  next = slice_index_or es n no_edge

  left_is : walks set here (drop n es) to ≡ ((next.from == here) && is_inside set next && walks set next.to (drop (n + 1) es) to)
  left_is = ap (λ (xs : List Edge). walks set here xs to) (drop_more es n no_edge within)

  pub walk_more : (next.from == here) ≡ true → is_inside set next ≡ true
      → walks set here (drop n es) to ≡ walks set next.to (drop (n + 1) es) to
  walk_more at inside = left_is ∙ (λ i. at i && inside i && walks set next.to (drop (n + 1) es) to)

  pub walk_off : ((next.from == here) ≡ false) ⊎ (is_inside set next ≡ false) → walks set here (drop n es) to ≡ false
  walk_off (inl off) = left_is ∙ (λ i. off i && is_inside set next && walks set next.to (drop (n + 1) es) to)
  walk_off (inr out) =
      left_is
      ∙ and_left ((next.from == here) && is_inside set next) (walks set next.to (drop (n + 1) es) to)
      (and_right (next.from == here) (is_inside set next) out)

pub walk_end : (set : List Bool) (es : List Edge) (n here to : ℕ) → length es ≤ n
    → walks set here (drop n es) to ≡ (here == to)
walk_end set es n here to all = ap (λ (xs : List Edge). walks set here xs to) (drop_all n es all)

-- The standings so far.

module _ (round : List Edge) (standings : List Standing) (marks : List Bool) where
  abbrev pub Met : ℕ → Type 0
  Met n =
      (i : ℕ) (d : Standing) → i < n → IsIn marks (slice_index_or standings i d).place
      → is_met round standings (slice_index_or standings i d) ≡ true

  pub met_more : (n : ℕ) → n < length standings
      → (IsIn marks (slice_index_or standings n no_standing).place
      → is_met round standings (slice_index_or standings n no_standing) ≡ true)
      → Met n → Met (n + 1)
  met_more n within here before i d below inside = elim (cases_lt i n) [
    | inl less ↦ before i d less inside
    | inr most ↦
        let same : n ≡ i = omega (arith, below, most) in
        let is : slice_index_or standings n no_standing ≡ slice_index_or standings i d =
        get_or_default standings n no_standing d within ∙ ap (λ k. slice_index_or standings k d) same in
        subst (λ (s : Standing). is_met round standings s ≡ true) is
        (here (subst (λ (s : Standing). IsIn marks s.place) (sym is) inside))
  ]

  pub met_all : (n : ℕ) → length standings ≤ n → Met n → MeetsAll round standings marks
  met_all n most met s there inside =
      let below = there.1 in
      subst (λ (x : Standing). is_met round standings x ≡ true) there.2
      (met there.0 s (omega (arith, below, most)) (subst (λ (x : Standing). IsIn marks x.place) (sym there.2) inside))
