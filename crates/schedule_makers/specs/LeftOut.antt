-- One stream is left out: for some steps it is passed over where another is free (docs/MACHINE.md, "Schedules").
use Rattle.std.specs.Prelude.{◌==◌, ◌-◌, ◌*◌, ◌/◌, ◌%◌, ◌^◌, nat_lt, ℕ, Option, None, length, if◌then◌else◌}
use Rattle.std.specs.Option.{option_or}
use Rattle.processor.specs.World.{World}
use Rattle.processor.specs.declared.steps.Step.{Step}
use Rattle.waiting.specs.Running.{running_steps}
use Rattle.schedule_makers.specs.Rules.{Rule}
use Rattle.schedule_makers.specs.Randomness.{random_word}
use Rattle.schedule_makers.specs.Turns.{turn_but, turn_by_word}
use Rattle.schedule_makers.specs.Priorities.{random_number, highest}

-- The stream that is left out: of those that run the first one whose random number is the largest. So one that starts
-- later may be the one from then on.
abbrev pub left_out : ℕ → World → Option Step
left_out seed w = highest (random_number seed) (running_steps w)

-- three quarters of what the fair run leaves of 10,000 steps: so the stream that is late has time for its own
abbrev pub longest_delay : ℕ → ℕ
longest_delay fair_steps = (10000 - fair_steps) * 3 / 4

-- below which number of steps it is left out; in one seed of four a 64th as many
abbrev pub delay_bound : ℕ → ℕ → ℕ
delay_bound word fair_steps =
    if word % 4 == 0 then longest_delay fair_steps / 64 else longest_delay fair_steps

-- for how many steps it is left out, by the first two words of the seed's generator
abbrev pub delay : ℕ → ℕ → ℕ
delay seed fair_steps = random_word seed 0 * delay_bound (random_word seed 1) fair_steps / 2 ^ 64

-- In turns of 8 steps by a word, for so many steps among the others as long as one of them is free; else among all.
abbrev pub late_by_word : ℕ → ℕ → ℕ → Rule
late_by_word seed steps word before image w =
    option_or (if nat_lt (length before) steps then turn_but 8 word (left_out seed w) before image w else None)
    (turn_by_word 8 word before image w)

abbrev pub next_but_one_late : ℕ → ℕ → Rule
next_but_one_late seed fair_steps before image w =
    late_by_word seed (delay seed fair_steps) (random_word seed (length before)) before image w
