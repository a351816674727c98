-- The edges of the graph.
use Rattle.std.proofs.Common.{◌≡◌, inl, inr, ℕ, ◌+◌, ◌<◌, refl, sym, ap, ◌∙◌, subst, arith}
use Rattle.std.proofs.Common.{List, [], ◌++◌, map, filter, length, slice_index_or, Contains}
use Rattle.std.proofs.lemmas.Bool.{cases_lt}
use Rattle.std.proofs.lemmas.List.{get_or_default}
use Rattle.std.proofs.lemmas.List.Elements.{Contains-append_left, Contains-append_right, Contains-append_cases}
use Rattle.processor.specs.World.{after}
use Rattle.processor.specs.declared.steps.Step.{Step}
use Rattle.schedule_space.specs.Spaces.{SpaceValue, count, world_of, HasEarlierLinks}
use Rattle.starving_streams.specs.Reports.{HasAllStates}
use Rattle.fair_rounds.specs.declared.graphs.Edge.{Edge}
use Rattle.fair_rounds.specs.declared.graphs.Standing.{Standing}
use Rattle.fair_rounds.specs.Classes.{stands}
use Rattle.fair_rounds.proofs.Lists.{mapped, mapped_from, kept_is, is_kept, same_step, step_same}
use Rattle.starving_streams.specs.Graphs.{IsStepEdge, Leaves, AreStandings, AreEdges, AreTargets, edge_by}
use Rattle.starving_streams.proofs.Leading.{target_leads}

module _ (v : SpaceValue) (plain : HasAllStates v) (earlier : HasEarlierLinks v) where
  -- The edges of a stream.

  module _ (standings : List Standing) (are : AreStandings v (count v) standings) where
    module _ (who : Step) (targets : List ℕ) (aims : AreTargets (count v) v.edges who targets) where
      abbrev own : List Edge
      own = map (edge_by targets) (filter (stands who) standings)

      own_edge : (e : Edge) → Contains own e → IsStepEdge v e
      own_edge e there =
          let got = mapped_from (edge_by targets) (filter (stands who) standings) e there in
          let kept = kept_is (stands who) standings got.0 got.1 in
          let s = got.0 in
          let stand = are.sound s kept.there in
          let mine : s.step ≡ who = same_step who s.step kept.pass in
          let to = target_leads v who targets s.place earlier plain.complete plain.edges aims stand.there in
          subst (IsStepEdge v) got.2 (record {
            from = stand.there;
            to = to.there;
            runs = stand.runs;
            completes = stand.can;
            leads = to.leads ∙ ap (after v.image (world_of v s.place)) (sym mine);
          })

      own_leaves : (s : Standing) → Contains standings s → s.step ≡ who → Leaves own s.place s.step
      own_leaves s there mine = (
        edge_by targets s,
        mapped (edge_by targets) (filter (stands who) standings) s
            (is_kept (stands who) standings s (step_same who s.step mine) there),
        refl,
        refl,
      )

    pub no_edges : (streams : List Step) → AreEdges v standings streams 0 []
    no_edges streams = record {
      sound = λ e there. absurd (let below = there.1 in omega (arith, below));
      all = λ s i d there within own. absurd (omega (arith, within));
    }

    -- with those of the next stream
    pub more_edges : (streams : List Step) (n : ℕ) (d : Step) (targets : List ℕ) (edges : List Edge) → n < length streams
        → AreTargets (count v) v.edges (slice_index_or streams n d) targets → AreEdges v standings streams n edges
        → AreEdges v standings streams (n + 1)
        (edges ++ map (edge_by targets) (filter (stands (slice_index_or streams n d)) standings))
    more_edges streams n d targets edges below aims found = record {
      sound = λ e there. elim (Contains-append_cases edges mine e there) [
        | inl before ↦ found.sound e before
        | inr here ↦ own_edge who targets aims e here
      ];
      all = λ s i c there within is. elim (cases_lt i n) [
        | inl less ↦
            let e = found.all s i c there less is in
            (e.0, Contains-append_left edges mine e.0 e.1, e.2, e.3)
        | inr most ↦
            let here : n ≡ i = omega (arith, within, most) in
            let same : who ≡ s.step =
            get_or_default streams n d c below ∙ ap (λ m. slice_index_or streams m c) here ∙ is in
            let e = own_leaves who targets aims s there (sym same) in
            (e.0, Contains-append_right edges mine e.0 e.1, e.2, e.3)
      ];
    } where
      who : Step
      who = slice_index_or streams n d

      mine : List Edge
      mine = map (edge_by targets) (filter (stands who) standings)
