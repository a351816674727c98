-- Rounds without the completed steps of a stream, and rounds where no stream could complete.
use Rattle.std.proofs.Common.{◌≡◌, inl, inr, ℕ, ap, ◌∙◌}
use Rattle.std.proofs.Common.{Bool, true, false, not, ◌&&◌, List, [], ◌∷◌, map, filter, Contains}
use Rattle.std.proofs.lemmas.Bool.{cases_Bool}
use Rattle.processor.specs.declared.steps.Step.{Step}
use Rattle.fair_rounds.specs.declared.graphs.Edge.{Edge}
use Rattle.fair_rounds.specs.declared.graphs.Standing.{Standing}
use Rattle.fair_rounds.specs.declared.graphs.Answer.{Answer}
use Rattle.fair_rounds.specs.declared.graphs.Answer.TheVariants.{Found, Absent, Undecided}
use Rattle.fair_rounds.specs.Rounds.{IsWalk, Runs, CanComplete, IsAnswer, IsStarvingAnswer, IsFairByWords, IsFairBySteps}
use Rattle.fair_rounds.specs.Classes.{is_step}
use Rattle.fair_rounds.specs.Starving.{is_left, at_rest}
use Rattle.fair_rounds.proofs.Walks.{head_in, tail_in, walk_on}
use Rattle.fair_rounds.proofs.Lists.{same_step, step_same, is_kept, kept_is, mapped, mapped_from}

module _ (test : Edge → Bool) (edges : List Edge) (set : List Bool) where
  walk_left : (es : List Edge) (from to : ℕ) → IsWalk (filter test edges) set from es to → IsWalk edges set from es to
  walk_left [] from to walk = walk
  walk_left (e ∷ es) from to walk = (
    record {
      there = (kept_is test edges e walk.0.there).there;
      from_is = walk.0.from_is;
      from_in = walk.0.from_in;
      to_in = walk.0.to_in;
    },
    walk_left es e.to to walk.1,
  )

  walk_kept : (es : List Edge) (from to : ℕ) → ((e : Edge) → Contains es e → test e ≡ true) → IsWalk edges set from es to
      → IsWalk (filter test edges) set from es to
  walk_kept [] from to all walk = walk
  walk_kept (e ∷ es) from to all walk = (
    record {
      there = is_kept test edges e (all e (head_in e es)) walk.0.there;
      from_is = walk.0.from_is;
      from_in = walk.0.from_in;
      to_in = walk.0.to_in;
    },
    walk_kept es e.to to (λ d there. all d (tail_in e d es there)) walk.1,
  )

left_blocked : (who : Step) (e : Edge) → is_left who e ≡ true → e.step ≡ who → e.completes ≡ false
left_blocked who e pass own = elim (cases_Bool e.completes) [
  | inl done ↦
      let same = step_same who e.step own in
      let fails : is_left who e ≡ false = λ i. not (same i && done i) in
      let off : ⊥ = cc in
      absurd off
  | inr blocked ↦ blocked
]

blocked_left : (who : Step) (e : Edge) → (e.step ≡ who → e.completes ≡ false) → is_left who e ≡ true
blocked_left who e blocked = elim (cases_Bool (is_step who e.step)) [
  | inl same ↦
      let stays : e.completes ≡ false = blocked (same_step who e.step same) in
      λ i. not (same i && stays i)
  | inr other ↦ λ i. not (other i && e.completes)
]

pub starving_by : (edges : List Edge) (standings : List Standing) (set : List Bool) (who : Step) (a : Answer)
    → IsAnswer (filter (is_left who) edges) set (IsFairByWords standings) a → IsStarvingAnswer edges standings set who a
starving_by edges standings set who (Found r) is = (
  record { walk = walk_left (is_left who) edges set r.edges.items r.place r.place is.0.walk; some = is.0.some },
  (
    is.1,
    λ e inner own.
        let on = walk_on (filter (is_left who) edges) set r.edges.items r.place r.place e is.0.walk inner in
        left_blocked who e (kept_is (is_left who) edges e on.is.there).pass own,
  ),
)
starving_by edges standings set who Absent is =
    λ k round around can.
    is k round (record {
      walk = walk_kept (is_left who) edges set round k k (λ e inner. blocked_left who e (can.1 e inner)) around.walk;
      some = around.some;
    }) can.0
starving_by edges standings set who Undecided is = tt

-- Where no stream could complete.

pub runs_resting : (standings : List Standing) (k : ℕ) (who : Step) → Runs standings k who → Runs (map at_rest standings) k who
runs_resting standings k who runs = (at_rest runs.0, mapped at_rest standings runs.0 runs.1, runs.2, runs.3)

pub resting_runs : (standings : List Standing) (k : ℕ) (who : Step) → Runs (map at_rest standings) k who → Runs standings k who
resting_runs standings k who runs =
    let got = mapped_from at_rest standings runs.0 runs.1 in (
      got.0,
      got.1,
      ap (λ (s : Standing). s.place) got.2 ∙ runs.2,
      ap (λ (s : Standing). s.step) got.2 ∙ runs.3,
    )

resting_not : (standings : List Standing) (k : ℕ) (who : Step) → CanComplete (map at_rest standings) k who → ⊥
resting_not standings k who can =
    let got = mapped_from at_rest standings can.0 can.1 in
    let same : false ≡ can.0.can_complete = ap (λ (s : Standing). s.can_complete) got.2 in
    let pass : can.0.can_complete ≡ true = can.4 in
    let off : ⊥ = cc in
    off

-- rounds that are fair by words where no stream could complete are those that are fair by steps

pub fair_resting : (standings : List Standing) (round : List Edge) → IsFairByWords (map at_rest standings) round
    → IsFairBySteps standings round
fair_resting standings round fair =
    λ who throughout. fair.steps who (λ k passed. runs_resting standings k who (throughout k passed))

pub resting_fair : (standings : List Standing) (round : List Edge) → IsFairBySteps standings round
    → IsFairByWords (map at_rest standings) round
resting_fair standings round fair = record {
  steps = λ who throughout. fair who (λ j passed. resting_runs standings j who (throughout j passed));
  words = λ j who passed can. absurd (resting_not standings j who can);
}

pub by_steps : (edges : List Edge) (standings : List Standing) (set : List Bool) (a : Answer)
    → IsAnswer edges set (IsFairByWords (map at_rest standings)) a → IsAnswer edges set (IsFairBySteps standings) a
by_steps edges standings set (Found r) is = (is.0, fair_resting standings r.edges.items is.1)
by_steps edges standings set Absent is = λ k round around fair. is k round around (resting_fair standings round fair)
by_steps edges standings set Undecided is = tt
