-- Turns: a stream goes on for some steps, and then another free one does (docs/MACHINE.md, "Schedules").
use Rattle.std.specs.Prelude.{◌==◌, ◌&&◌, ◌%◌, ℕ, not, Option, Some, None, length, if◌then◌else◌}
use Rattle.std.specs.Option.{option_or}
use Rattle.image_file.specs.ImageValue.{ImageValue}
use Rattle.processor.specs.World.{World}
use Rattle.processor.specs.declared.steps.Step.{Step}
use Rattle.schedule_makers.specs.Rules.{Rule, last_step, next_in_rounds}
use Rattle.schedule_makers.specs.Randomness.{random_word, step_by_word}
use Rattle.schedule_makers.specs.Free.{is_free_but, free_but}

-- the step of the stream that made the last one, if it is free, is not left out, and its turn goes on: of n words one ends
-- a turn
abbrev pub same_turn : ℕ → ℕ → Option Step → ImageValue → World → Option Step → Option Step
same_turn n word out image w None = None
same_turn n word out image w (Some t) =
    if not (word % n == 0) && is_free_but out image w t then Some t else None

-- Among the free streams but the one that is left out, if one is: the stream of the last step goes on with its turn, else
-- another one of them begins its own. A word says which.
abbrev pub turn_but : ℕ → ℕ → Option Step → Rule
turn_but n word out before image w =
    option_or (same_turn n word out image w (last_step before)) (step_by_word word (free_but out image w))

-- By a word: the same among all free streams. Where none is free, in rounds: so each is tried again.
abbrev pub turn_by_word : ℕ → ℕ → Rule
turn_by_word n word before image w = option_or (turn_but n word None before image w) (next_in_rounds before image w)

-- In turns of n steps on average, by one word of the generator a step.
abbrev pub next_in_turns : ℕ → ℕ → Rule
next_in_turns n seed before image w = turn_by_word n (random_word seed (length before)) before image w
