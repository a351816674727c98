use Rattle.std.proofs.Common.{◌≡◌, ◌∙◌, List, [], ◌∷◌, ◌++◌, map, sym, ap, Some, drop}
use Rattle.std.specs.List.{slice_get}
use Rattle.std.specs.Option.{option_copied}
use Rattle.trace_text.specs.Runs.{step_runs}
use Rattle.trace_text.proofs.RunsInFront.{step_run_length}
use Rattle.schedule_turns.specs.declared.turns.Turn.{Turn}
use Rattle.schedule_turns.specs.Turns.{run_of_turn}
use Rattle.schedule_turns.proofs.TurnRuns.{turn_more, all_found, turns_whole, turns_some, turns_differ}
use Rattle.schedule_turns.proofs.turns.turns_of.Goals as goal

pub loop-first-preserved : goal.loop-first-preserved
loop-first-preserved c =
    let first : slice_get c.loop-first.rest.now 0 ≡ Some c.in-Some.first.now = sym c.first.ensures.value
    ∙ ap option_copied c.in-Some.is in
    let times = step_run_length c.in-Some.first.now c.loop-first.rest.now in
    let turns : List Turn = c.loop-first.turns.items ++ record { stream = c.in-Some.first.now; count = times } ∷ [] in
    let pushed : c.push.new.self.items ≡ turns = c.in_ok-push.ensures.items
    ∙ ap (λ n. c.loop-first.turns.items ++ record { stream = c.in-Some.first.now; count = n } ∷ [])
    c.run_length-count.ensures.count in
    ap (λ ts. map run_of_turn ts ++ step_runs c.split_at.result.1.now) pushed
    ∙ ap (λ left. map run_of_turn turns ++ step_runs left)
    (c.split_at.ensures.back ∙ ap (λ n. drop n c.loop-first.rest.now) c.run_length-count.ensures.count)
    ∙ turn_more c.in-Some.first.now c.loop-first.rest.now c.loop-first.turns.items (step_runs c.args.steps.now)
    first c.loop-first.invariant

pub returns-clause-runs : goal.returns-clause-runs
returns-clause-runs c =
    all_found c.loop-first.rest.now c.loop-first.turns.items (step_runs c.args.steps.now)
    (sym c.first.ensures.value ∙ ap option_copied c.in_default.is) c.loop-first.invariant

pub returns-clause-steps : goal.returns-clause-steps
returns-clause-steps c = turns_whole c.args.steps.now c.loop-first.turns.items (returns-clause-runs c)

pub returns-clause-some : goal.returns-clause-some
returns-clause-some c = turns_some c.args.steps.now c.loop-first.turns.items (returns-clause-runs c)

pub returns-clause-apart : goal.returns-clause-apart
returns-clause-apart c = turns_differ c.args.steps.now c.loop-first.turns.items (returns-clause-runs c)
