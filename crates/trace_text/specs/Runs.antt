-- Runs of equal steps, and the lines that they are written as.
use Rattle.std.specs.Prelude.{ℕ, ◌/◌, ◌%◌, ◌==◌, ◌&&◌, Bool, if◌then◌else◌, List, [], ◌∷◌, ◌++◌, codes, replicate}
use Rattle.std.specs.Fmt.{decimal}
use Rattle.std.specs.List.{flat_map}
use Rattle.text_parts.specs.Runs.{Run, runs_of}
use Rattle.processor.specs.World.{most_steps}
use Rattle.processor.specs.declared.steps.Step.{Step}

-- whether two steps are of the same stream
abbrev pub same_step : Step → Step → Bool
same_step t u = t.p == u.p && t.s == u.s

-- the runs, each as long as it can be
abbrev pub step_runs : List Step → List (Run Step)
step_runs steps = runs_of same_step steps

-- a run of so many steps; none of no step
abbrev pub rest_of : Step → ℕ → List (Run Step)
rest_of t n = if n == 0 then [] else record { thing = t; times = n } ∷ []

-- a run in parts of the most steps that a schedule has, and a rest, if there is one
abbrev pub run_parts : Run Step → List (Run Step)
run_parts r =
    replicate (r.times / most_steps) (record { thing = r.thing; times = most_steps })
    ++ rest_of r.thing (r.times % most_steps)

-- the line of a run of steps: processor, stream, how often
unfoldable pub schedule_line : Run Step → List ℕ
schedule_line r = decimal r.thing.p ++ codes " " ++ decimal r.thing.s ++ codes " " ++ decimal r.times ++ codes "\n"

-- the lines of a run
unfoldable pub schedule_run_text : Run Step → List ℕ
schedule_run_text r = flat_map schedule_line (run_parts r)

-- the text of a schedule
unfoldable pub schedule_text : List Step → List ℕ
schedule_text steps = flat_map schedule_run_text (step_runs steps)
