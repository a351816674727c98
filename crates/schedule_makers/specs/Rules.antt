-- Which running stream steps next (docs/MACHINE.md, "Schedules").
use Rattle.std.specs.Prelude.{◌==◌, ◌&&◌, ◌||◌, ◌-◌, nat_lt, ℕ, Bool, true, false, List, Option, Some, None, find, filter, length}
use Rattle.std.specs.Prelude.{slice_get, option_and_then}
use Rattle.std.specs.Option.{option_or}
use Rattle.image_file.specs.ImageValue.{ImageValue}
use Rattle.processor.specs.World.{World}
use Rattle.processor.specs.declared.steps.Step.{Step}
use Rattle.waiting.specs.Running.{running_steps}

-- A rule takes a step by the steps before it and by the machine as it stands: an image and a world.
abbrev pub Rule : Type 0
Rule = List Step → ImageValue → World → Option Step

-- A choice takes one of some steps, which are in the order of processor and stream, by the steps before it.
abbrev pub Choice : Type 0
Choice = List Step → List Step → Option Step

-- the rule that makes a choice among the steps of all streams that run
abbrev pub among_running : Choice → Rule
among_running choice before image w = choice before (running_steps w)

-- the last of these steps
abbrev pub last_step : List Step → Option Step
last_step ts = slice_get ts (length ts - 1)

-- whether a step, which may be missing, is of the same stream as another
abbrev pub is_of_stream : Option Step → Step → Bool
is_of_stream None t = false
is_of_stream (Some u) t = (u.p == t.p) && (u.s == t.s)

-- whether the second step stands behind the first in the order of processor and stream
abbrev pub is_behind : Step → Step → Bool
is_behind t u = nat_lt t.p u.p || ((t.p == u.p) && nat_lt t.s u.s)

-- whether the second step's processor stands behind the first's
abbrev pub is_of_later : Step → Step → Bool
is_of_later t u = nat_lt t.p u.p

-- whether a step stands behind the last one in an order; each does where there is no last one
abbrev pub is_after_last : (Step → Step → Bool) → Option Step → Step → Bool
is_after_last behind None u = true
is_after_last behind (Some t) u = behind t u

-- the first of the running streams that stands behind the last step in an order, else the first of them
abbrev pub next_after : (Step → Step → Bool) → Option Step → List Step → Option Step
next_after behind last runs = option_or (find (is_after_last behind last) runs) (slice_get runs 0)

-- In rounds: the next one behind the last step in the order of processor and stream, and from the first again.
abbrev pub choice_in_rounds : Choice
choice_in_rounds before runs = next_after is_behind (last_step before) runs

abbrev pub next_in_rounds : Rule
next_in_rounds = among_running choice_in_rounds

-- those of a processor
abbrev pub of_processor : ℕ → List Step → List Step
of_processor p ts = filter (λ t. t.p == p) ts

-- Fair: the processors in turn, and of each its streams in turn. The next processor with a running stream behind that of
-- the last step, and from the first again; of it the next one in rounds, as if it were alone.
abbrev pub fair_choice : Choice
fair_choice before runs =
    option_and_then (λ u. choice_in_rounds (of_processor u.p before) (of_processor u.p runs))
    (next_after is_of_later (last_step before) runs)

abbrev pub next_fair : Rule
next_fair = among_running fair_choice
