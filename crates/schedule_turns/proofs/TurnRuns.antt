-- Turns that are found so far, and the runs of the steps that are left.
use Rattle.std.proofs.Common.{◌≡◌, ◌≤◌, List, [], ◌∷◌, ◌++◌, map, drop, Some, None, sym, ap, subst, ◌∙◌}
use Rattle.std.proofs.Common.{append_assoc, append-nil}
use Rattle.std.specs.List.{flat_map, slice_get, All, AllByRecursion}
use Rattle.std.proofs.lemmas.List.{map-append}
use Rattle.std.proofs.lemmas.List.Elements.{All-nil, All-cons}
use Rattle.std.proofs.lemmas.List.Folds.{flat_map-map}
use Rattle.text_parts.specs.Runs.{Run, runs_of, run_things, NeighboursDiffer}
use Rattle.text_parts.proofs.RunLaws.{first_run, some_run, neighbours_differ}
use Rattle.processor.specs.declared.steps.Step.{Step}
use Rattle.trace_text.specs.Runs.{same_step, step_runs}
use Rattle.trace_text.proofs.RunsInFront.{steps_equal, step_run_length}
use Rattle.trace_text.proofs.RunsRead.{expanded-runs}
use Rattle.schedule_turns.specs.declared.turns.Turn.{Turn}
use Rattle.schedule_turns.specs.Turns.{run_of_turn, turn_steps}

-- one turn more is found, and one run less is left
pub turn_more : (t : Step) (rest : List Step) (turns : List Turn) (all : List (Run Step)) → slice_get rest 0 ≡ Some t
    → map run_of_turn turns ++ step_runs rest ≡ all
    → map run_of_turn (turns ++ record { stream = t; count = step_run_length t rest } ∷ [])
    ++ step_runs (drop (step_run_length t rest) rest) ≡ all
turn_more t rest turns all first whole =
    let turn : Turn = record { stream = t; count = step_run_length t rest } in
    let left = step_runs (drop (step_run_length t rest) rest) in
    ap (λ rs. rs ++ left) (map-append run_of_turn turns (turn ∷ []))
    ∙ append_assoc (map run_of_turn turns) (run_of_turn turn ∷ []) left
    ∙ ap (λ rs. map run_of_turn turns ++ rs) (sym (first_run same_step steps_equal t rest first)) ∙ whole

pub all_found : (rest : List Step) (turns : List Turn) (all : List (Run Step)) → slice_get rest 0 ≡ None
    → map run_of_turn turns ++ step_runs rest ≡ all → map run_of_turn turns ≡ all
unfolding runs_of
all_found [] turns all none whole = sym (append-nil (map run_of_turn turns)) ∙ whole
all_found (t ∷ ts) turns all none whole = cc

pub turns_whole : (steps : List Step) (turns : List Turn) → map run_of_turn turns ≡ step_runs steps
    → flat_map turn_steps turns ≡ steps
turns_whole steps turns are = sym (flat_map-map run_things run_of_turn turns) ∙ ap (flat_map run_things) are ∙ expanded-runs steps

each_some : (turns : List Turn) → AllByRecursion (λ (r : Run Step). 1 ≤ r.times) (map run_of_turn turns)
    → All (λ (t : Turn). 1 ≤ t.count) turns
each_some [] h = All-nil (λ (t : Turn). 1 ≤ t.count)
each_some (t ∷ ts) h = All-cons (λ (t : Turn). 1 ≤ t.count) t ts h.0 (each_some ts h.1)

pub turns_some : (steps : List Step) (turns : List Turn) → map run_of_turn turns ≡ step_runs steps
    → All (λ (t : Turn). 1 ≤ t.count) turns
turns_some steps turns are =
    each_some turns (subst (AllByRecursion (λ (r : Run Step). 1 ≤ r.times)) (sym are) (some_run same_step steps_equal steps))

pub turns_differ : (steps : List Step) (turns : List Turn) → map run_of_turn turns ≡ step_runs steps
    → NeighboursDiffer (map run_of_turn turns)
turns_differ steps turns are = subst NeighboursDiffer (sym are) (neighbours_differ same_step steps_equal steps)
