-- What is said of a stream, and of one stream more.
use Rattle.std.proofs.Common.{◌≡◌, ◌⊎◌, inl, inr, ℕ, ◌+◌, ◌<◌, ◌≤◌, sym, ap, ◌∙◌, subst, arith, Bool}
use Rattle.std.proofs.Common.{List, [], ◌∷◌, ◌++◌, map, length, slice_index_or, Contains}
use Rattle.std.specs.Prelude.{IsTrue, not}
use Rattle.std.proofs.lemmas.Bool.{cases_lt, and_parts}
use Rattle.std.proofs.lemmas.List.{get_or_default}
use Rattle.std.proofs.lemmas.List.Elements.{Contains-append_left, Contains-push, Contains-push_cases}
use Rattle.image_file.specs.ImageValue.{ImageValue}
use Rattle.processor.specs.World.{World, after, run}
use Rattle.processor.specs.declared.steps.Step.{Step}
use Rattle.waiting.specs.Running.{runs_in}
use Rattle.schedule_space.specs.Spaces.{SpaceValue, count, schedule_of, world_of}
use Rattle.schedule_space.proofs.Schedules.{goes_on}
use Rattle.fair_rounds.specs.declared.graphs.Round.{Round}
use Rattle.fair_rounds.specs.declared.graphs.Answer.TheVariants.{Found, Absent}
use Rattle.fair_rounds.specs.Rounds.{IsStarvingAnswer}
use Rattle.fair_rounds.proofs.Walks.{head_in, none_in}
use Rattle.starving_streams.specs.declared.graphs.Graph.{Graph}
use Rattle.starving_streams.specs.declared.reports.Starving.{Starving}
use Rattle.starving_streams.specs.declared.reports.StarvingStreams.{StarvingStreams}
use Rattle.starving_streams.specs.declared.starving.StreamAnswer.{StreamAnswer}
use Rattle.starving_streams.specs.declared.starving.StreamAnswer.TheVariants as answer
use Rattle.claims.specs.declared.run_conditions.Rest.{Rest}
use Rattle.starving_streams.specs.Rests.{may_rest, is_due}
use Rattle.starving_streams.specs.Starving.{taken, Starves, CanWaitForEver}
use Rattle.starving_streams.specs.Reports.{HasAllStates, IsShown, Names, TellsWhoStarves}
use Rattle.starving_streams.specs.Graphs.{IsGraph, AreMarksBy, IsStreamAnswer, IsShownAs, IsAdded, TellsOfFirst, step_of}
use Rattle.starving_streams.proofs.Marks.{marks_of}
use Rattle.starving_streams.proofs.Rounds.{starves_in, none_starves}

module _ (v : SpaceValue) (g : Graph) (who : Step) (marks : List Bool) (plain : HasAllStates v)
    (rests : List Rest) (is : IsGraph v rests g) (by : AreMarksBy g.dues.items (count v) who marks) where
  -- where no round is there
  pub never_by : IsStarvingAnswer g.edges.items g.dues.items marks who Absent
      → ¬ (CanWaitForEver v.image v.begin rests who)
  never_by none =
      none_starves v rests g is marks who (marks_of v rests g.dues.items who marks is.dues by) plain none

  -- where this one is
  pub shown_by : (r : Round) → IsStarvingAnswer g.edges.items g.dues.items marks who (Found r)
      → (a : StreamAnswer) → IsShownAs v who r a → IsStreamAnswer v.image v.begin rests who a
  shown_by r found (answer.Starves x) (lasso, earlier) = (
    record {
      begins = (on.0, lasso.stem ∙ on.1);
      starves =
          subst (λ (t : Step). Starves v.image rests (run v.image x.stem.items) t x.round.items) (sym lasso.stream)
          (subst (λ (ts : List Step). Starves v.image rests (run v.image x.stem.items) who ts) (sym lasso.round)
          (subst (λ (w : World). Starves v.image rests w who (map step_of r.edges.items)) (ap (run v.image) (sym lasso.stem))
          (starves_in v rests g is marks who (marks_of v rests g.dues.items who marks is.dues by) r.edges.items r.place
          found.0 found.1.0 found.1.1)));
      shortest = λ ts same.
          subst (λ (us : List Step). length us ≤ length (v.begin ++ ts)) (sym lasso.stem)
          (plain.shortest r.place lasso.there ts (same ∙ ap (run v.image) lasso.stem));
    },
    lasso.stream,
  ) where
    on : (more : List Step) × (schedule_of v r.place ≡ v.begin ++ more)
    on =
        let there = lasso.there in
        goes_on v.begin v.links (length v.links) r.place earlier (omega (arith, there)) (omega (arith, there))
  shown_by r found answer.Never never = absurd never
  shown_by r found answer.Undecided known = known

module _ (image : ImageValue) (begin : List Step) (rests : List Rest) (streams : List Step) where
  pub tells_none : (r : StarvingStreams) → r.starving.items ≡ [] → TellsOfFirst image begin rests streams 0 r
  tells_none r none = record {
    shown = λ x there. absurd (none_in x (subst (λ (xs : List Starving). Contains xs x) none there));
    all = λ i d below can. absurd (omega (arith, below));
  }

  -- what is said of the others stays
  grown : (old new : StarvingStreams)
      → ((u : Step) → Names old.starving.items u → Names new.starving.items u)
      → ((u : Step) → Contains old.undecided.items u → Contains new.undecided.items u) → (n : ℕ) (d : Step)
      → n < length streams → TellsOfFirst image begin rests streams n old
      → (CanWaitForEver image begin rests (slice_index_or streams n d)
      → Names new.starving.items (slice_index_or streams n d) ⊎ Contains new.undecided.items (slice_index_or streams n d))
      → (i : ℕ) (c : Step) → i < n + 1 → CanWaitForEver image begin rests (slice_index_or streams i c)
      → Names new.starving.items (slice_index_or streams i c) ⊎ Contains new.undecided.items (slice_index_or streams i c)
  grown old new names undecided n d below before here i c within can = elim (cases_lt i n) [
    | inl less ↦ elim (before.all i c less can) [
      | inl shown ↦ inl (names (slice_index_or streams i c) shown)
      | inr left ↦ inr (undecided (slice_index_or streams i c) left)
    ]
    | inr most ↦
        let at : n ≡ i = omega (arith, within, most) in
        let same : slice_index_or streams n d ≡ slice_index_or streams i c =
        get_or_default streams n d c below ∙ ap (λ m. slice_index_or streams m c) at in
        subst (λ (u : Step). CanWaitForEver image begin rests u
        → Names new.starving.items u ⊎ Contains new.undecided.items u) same here can
  ]

  pub tells_more : (old new : StarvingStreams) (n : ℕ) (d : Step) (a : StreamAnswer) → n < length streams
      → TellsOfFirst image begin rests streams n old → IsStreamAnswer image begin rests (slice_index_or streams n d) a
      → IsAdded (slice_index_or streams n d) a old new → TellsOfFirst image begin rests streams (n + 1) new
  tells_more old new n d (answer.Starves x) below before (shown, own) (starving, undecided) = record {
    shown = λ y there. elim (Contains-push_cases old.starving.items x y
        (subst (λ (xs : List Starving). Contains xs y) starving there)) [
          | inl was ↦ before.shown y was
          | inr same ↦ subst (IsShown image begin rests) same shown
        ];
    all =
        grown old new
        (λ u names. (
          names.0,
          subst (λ (xs : List Starving). Contains xs names.0) (sym starving)
              (Contains-append_left old.starving.items (x ∷ []) names.0 names.1),
          names.2,
        ))
        (λ u there. subst (λ (us : List Step). Contains us u) (sym undecided) there) n d below before
        (λ can. inl (
          x,
          subst (λ (xs : List Starving). Contains xs x) (sym starving) (Contains-push old.starving.items x),
          own,
        ));
  }
  tells_more old new n d answer.Never below before never (starving, undecided) = record {
    shown = λ y there. before.shown y (subst (λ (xs : List Starving). Contains xs y) starving there);
    all =
        grown old new
        (λ u names. (names.0, subst (λ (xs : List Starving). Contains xs names.0) (sym starving) names.1, names.2))
        (λ u there. subst (λ (us : List Step). Contains us u) (sym undecided) there) n d below before
        (λ can. absurd (never can));
  }
  tells_more old new n d answer.Undecided below before known (starving, undecided) = record {
    shown = λ y there. before.shown y (subst (λ (xs : List Starving). Contains xs y) starving there);
    all =
        grown old new
        (λ u names. (names.0, subst (λ (xs : List Starving). Contains xs names.0) (sym starving) names.1, names.2))
        (λ u there.
        subst (λ (us : List Step). Contains us u) (sym undecided)
        (Contains-append_left old.undecided.items (slice_index_or streams n d ∷ []) u there)) n d below before
        (λ can. inr (
        subst (λ (us : List Step). Contains us (slice_index_or streams n d)) (sym undecided)
        (Contains-push old.undecided.items (slice_index_or streams n d))));
  }

-- of all streams that stand somewhere
pub tells_all : (v : SpaceValue) (rests : List Rest) (g : Graph) (n : ℕ) (r : StarvingStreams) → HasAllStates v → IsGraph v rests g
    → length g.streams.items ≡ n → TellsOfFirst v.image v.begin rests g.streams.items n r
    → TellsWhoStarves v.image v.begin rests r
tells_all v rests g n r plain is all tells = record {
  shown = tells.shown;
  all = named;
  nobody = λ none decided who can. elim (named who can) [
    | inl shown ↦ absurd (none_in shown.0 (subst (λ (xs : List Starving). Contains xs shown.0) none shown.1))
    | inr left ↦ absurd (none_in who (subst (λ (us : List Step). Contains us who) decided left))
  ];
} where
  runs : (ts : List Step) (w : World) (who : Step) → Starves v.image rests w who ts → IsTrue (is_due rests w who)
  runs [] w who starves = let some = starves.around.some in absurd (omega (arith, some))
  runs (t ∷ ts) w who starves =
      starves.due (record { world = w; step = t })
      (head_in (record { world = w; step = t }) (taken v.image (after v.image w t) ts))

  named : (who : Step) → CanWaitForEver v.image v.begin rests who → Names r.starving.items who ⊎ Contains r.undecided.items who
  named who can =
      let has = plain.complete can.0 in
      let due : IsTrue (is_due rests (world_of v has.0) who) =
      subst (λ (w : World). IsTrue (is_due rests w who)) (sym has.2)
      (runs can.1 (run v.image (v.begin ++ can.0)) who can.2) in
      let here : IsTrue (runs_in (world_of v has.0) who) =
      (and_parts (runs_in (world_of v has.0) who) (not (may_rest rests (world_of v has.0) who)) due).0 in
      let s = is.standings.all has.0 who has.1 here in
      let listed = is.streams s.0 s.1 in
      let within = listed.1 in
      let at : slice_index_or g.streams.items listed.0 s.0.step ≡ who = listed.2 ∙ s.3 in
      subst (λ (u : Step). Names r.starving.items u ⊎ Contains r.undecided.items u) at
      (tells.all listed.0 s.0.step (omega (arith, within, all))
      (subst (CanWaitForEver v.image v.begin rests) (sym at) can))
