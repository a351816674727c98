-- The runs of steps say the steps.
use Rattle.std.proofs.Common.{◌≡◌, ℕ, ◌≤◌, length, List, [], ◌∷◌}
use Rattle.std.specs.List.{flat_map, All, AllByRecursion}
use Rattle.text_parts.specs.Runs.{Run, run_things}
use Rattle.text_parts.proofs.RunLaws.{IsRunOf, runs_whole, each_run}
use Rattle.processor.specs.declared.steps.Step.{Step}
use Rattle.trace_text.specs.Laws.{IsStep}
use Rattle.trace_text.specs.Runs.{same_step, step_runs}
use Rattle.trace_text.proofs.RunsInFront.{steps_equal}

-- a run of a step, once or more
pub record IsRun (r : Run Step) : Type 0 where
  pub step : IsStep r.thing
  pub some : 1 ≤ r.times

abbrev pub EachRun : List (Run Step) → Type 0
EachRun [] = Unit {0}
EachRun (r ∷ rs) = IsRun r × EachRun rs

pub expanded-runs : (ts : List Step) → flat_map run_things (step_runs ts) ≡ ts
expanded-runs ts = runs_whole same_step steps_equal ts

each : (n : ℕ) (rs : List (Run Step)) → AllByRecursion (IsRunOf IsStep n) rs → EachRun rs
each n [] h = tt
each n (r ∷ rs) h = (record { step = h.0.2; some = h.0.0 }, each n rs h.1)

pub each-run : (ts : List Step) → All IsStep ts → EachRun (step_runs ts)
each-run ts all = each (length ts) (step_runs ts) (each_run same_step steps_equal IsStep ts all)
