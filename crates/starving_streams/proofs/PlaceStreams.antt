-- The streams at places.
use Rattle.std.proofs.Common.{◌≡◌, inl, inr, ℕ, ◌+◌, ◌<◌, refl, sym, ap, ◌∙◌, subst, arith}
use Rattle.std.proofs.Common.{Bool, ◌&&◌, List, [], ◌∷◌, ◌++◌, map, filter}
use Rattle.std.specs.Prelude.{IsTrue}
use Rattle.std.proofs.lemmas.Bool.{cases_lt, and_parts}
use Rattle.std.proofs.lemmas.List.Elements.{Contains-append_left, Contains-append_right, Contains-append_cases}
use Rattle.processor.specs.World.{World}
use Rattle.processor.specs.declared.steps.Step.{Step}
use Rattle.waiting.specs.Running.{runs_in, running_steps, AreRunning}
use Rattle.schedule_space.specs.Spaces.{SpaceValue, count, world_of}
use Rattle.fair_rounds.specs.declared.graphs.Standing.{Standing}
use Rattle.fair_rounds.proofs.Lists.{mapped, mapped_from, kept_is, is_kept}
use Rattle.claims.specs.declared.run_conditions.Rest.{Rest}
use Rattle.starving_streams.specs.Rests.{is_due}
use Rattle.starving_streams.specs.Starving.{can_complete}
use Rattle.starving_streams.specs.Graphs.{IsStanding, AreStandings, IsDueStanding, AreDues, standing_of, may_not_rest, HasAdded}

-- Standings.

module _ (v : SpaceValue) where
  pub no_standings : AreStandings v 0 []
  no_standings = record {
    sound = λ s there. absurd (let below = there.1 in omega (arith, below));
    all = λ k who below runs. absurd (omega (arith, below));
  }

  -- with those of the next place
  pub more_standings : (n : ℕ) (old : List Standing) (w : World) → n < count v → w ≡ world_of v n
      → AreRunning w (running_steps w) → AreStandings v n old
      → AreStandings v (n + 1) (old ++ map (standing_of v.image w n) (running_steps w))
  more_standings n old w below same running are = record {
    sound = λ s there. elim (Contains-append_cases old own s there) [
      | inl before ↦ are.sound s before
      | inr here ↦
          let got = mapped_from f (running_steps w) s here in
          let runs : IsTrue (runs_in (world_of v n) got.0) =
          subst (λ (x : World). IsTrue (runs_in x got.0)) same ((running got.0).0 got.1) in
          subst (IsStanding v) got.2 (record {
            there = below;
            runs = runs;
            can = ap (λ (x : World). can_complete v.image x got.0) same;
          })
    ];
    all = λ k who within runs. elim (cases_lt k n) [
      | inl less ↦
          let s = are.all k who less runs in
          (s.0, Contains-append_left old own s.0 s.1, s.2, s.3)
      | inr most ↦
          let here : k ≡ n = omega (arith, within, most) in
          let runs_here : IsTrue (runs_in w who) =
          subst (λ (x : World). IsTrue (runs_in x who)) (ap (world_of v) here ∙ sym same) runs in
          let listed = (running who).1 runs_here in
          (f who, Contains-append_right old own (f who) (mapped f (running_steps w) who listed), sym here, refl)
    ];
  } where
    f : Step → Standing
    f = standing_of v.image w n

    own : List Standing
    own = map f (running_steps w)

-- Dues.

module _ (v : SpaceValue) (rests : List Rest) where
  pub no_dues : AreDues v rests 0 []
  no_dues = record {
    sound = λ s there. absurd (let below = there.1 in omega (arith, below));
    all = λ k who below due. absurd (omega (arith, below));
  }

  -- with those of the next place
  pub more_dues : (n : ℕ) (old : List Standing) (w : World) → n < count v → w ≡ world_of v n
      → AreRunning w (running_steps w) → AreDues v rests n old
      → AreDues v rests (n + 1) (old ++ map (standing_of v.image w n) (filter (may_not_rest rests w) (running_steps w)))
  more_dues n old w below same running are = record {
    sound = λ s there. elim (Contains-append_cases old own s there) [
      | inl before ↦ are.sound s before
      | inr here ↦
          let got = mapped_from f left s here in
          let kept = kept_is p (running_steps w) got.0 got.1 in
          let runs : IsTrue (runs_in w got.0) = (running got.0).0 kept.there in
          let due : IsTrue (is_due rests w got.0) = ap (λ (b : Bool). b && p got.0) runs ∙ kept.pass in
          subst (IsDueStanding v rests) got.2 (record {
            there = below;
            due = subst (λ (x : World). IsTrue (is_due rests x got.0)) same due;
            can = ap (λ (x : World). can_complete v.image x got.0) same;
          })
    ];
    all = λ k who within due. elim (cases_lt k n) [
      | inl less ↦
          let s = are.all k who less due in
          (s.0, Contains-append_left old own s.0 s.1, s.2, s.3)
      | inr most ↦
          let here : k ≡ n = omega (arith, within, most) in
          let due_here : IsTrue (is_due rests w who) =
          subst (λ (x : World). IsTrue (is_due rests x who)) (ap (world_of v) here ∙ sym same) due in
          let parts = and_parts (runs_in w who) (p who) due_here in
          let listed = (running who).1 parts.0 in
          let kept = is_kept p (running_steps w) who parts.1 listed in
          (f who, Contains-append_right old own (f who) (mapped f left who kept), sym here, refl)
    ];
  } where
    f : Step → Standing
    f = standing_of v.image w n

    p : Step → Bool
    p = may_not_rest rests w

    left : List Step
    left = filter p (running_steps w)

    own : List Standing
    own = map f left

-- Streams.

pub added : (old : List Step) (who : Step) → HasAdded old who (old ++ who ∷ [])
added old who = record {
  there = Contains-append_right old (who ∷ []) who (0, omega arith, refl);
  kept = λ u there. Contains-append_left old (who ∷ []) u there;
}
