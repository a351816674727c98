-- Priorities: each stream has one at random, and falls below the others at two steps (docs/MACHINE.md, "Schedules").
use Rattle.std.specs.Prelude.{◌+◌, ◌*◌, ◌/◌, ◌%◌, ◌^◌, nat_lt, ℕ, Bool, true, List, [], ◌∷◌}
use Rattle.std.specs.Prelude.{Option, Some, None, length, slice_get, if◌then◌else◌}
use Rattle.std.specs.Option.{option_or}
use Rattle.processor.specs.declared.steps.Step.{Step}
use Rattle.rand_xoshiro.specs.SplitMix64.{mix_u64}
use Rattle.schedule_makers.specs.Rules.{Rule, is_of_stream, next_in_rounds}
use Rattle.schedule_makers.specs.Randomness.{random_word}
use Rattle.schedule_makers.specs.Free.{free_steps}
use Rattle.schedule_makers.specs.Turns.{turn_by_word}

-- the stream's number among all, from 1 on
abbrev pub stream_number : Step → ℕ
stream_number t = 256 * t.p + t.s + 1

-- the random number of a stream: the first word of SplitMix64, begun at the seed with 2^40 times the stream's number added
abbrev pub random_number : ℕ → Step → ℕ
random_number seed t = (mix_u64 ((seed + stream_number t * 2 ^ 40) % 2 ^ 64)).0

-- The change points: two steps of as many as the fair run has, by the first two words of the seed's generator.
abbrev pub change_point : ℕ → ℕ → ℕ → ℕ
change_point seed fair_steps k = random_word seed k * fair_steps / 2 ^ 64

abbrev pub is_second_earlier : ℕ → ℕ → Bool
is_second_earlier seed fair_steps = nat_lt (change_point seed fair_steps 1) (change_point seed fair_steps 0)

abbrev pub earlier_change : ℕ → ℕ → ℕ
earlier_change seed fair_steps =
    if is_second_earlier seed fair_steps then change_point seed fair_steps 1 else change_point seed fair_steps 0

abbrev pub later_change : ℕ → ℕ → ℕ
later_change seed fair_steps =
    if is_second_earlier seed fair_steps then change_point seed fair_steps 0 else change_point seed fair_steps 1

-- a stream's priority, where these steps were taken at the later and at the earlier change point: the stream of the later
-- one is the last of all, that of the earlier one the last but one
abbrev pub priority_of : ℕ → Option Step → Option Step → Step → ℕ
priority_of seed later earlier t =
    if is_of_stream later t then 0 else if is_of_stream earlier t then 1 else random_number seed t + 2

-- the same after these steps
abbrev pub priority : ℕ → ℕ → List Step → Step → ℕ
priority seed fair_steps before =
    priority_of seed (slice_get before (later_change seed fair_steps))
    (slice_get before (earlier_change seed fair_steps))

-- whether a step's priority is above that of the best so far
abbrev pub is_above : (Step → ℕ) → Option Step → Step → Bool
is_above rank None t = true
is_above rank (Some u) t = nat_lt (rank u) (rank t)

-- the best so far, then the first of those behind it that are above all before them
abbrev pub highest_from : (Step → ℕ) → Option Step → List Step → Option Step
highest_from rank best [] = best
highest_from rank best (t ∷ ts) = highest_from rank (if is_above rank best t then Some t else best) ts

-- the first one of the highest priority
abbrev pub highest : (Step → ℕ) → List Step → Option Step
highest rank ts = highest_from rank None ts

-- the step of the free stream that has the highest priority; where none is free, in rounds
abbrev pub highest_free : ℕ → ℕ → Rule
highest_free seed fair_steps before image w =
    option_or (highest (priority seed fair_steps before) (free_steps image w)) (next_in_rounds before image w)

-- how many steps are taken by priorities
abbrev pub priority_steps : ℕ → ℕ
priority_steps fair_steps = 2 * fair_steps + 1000

-- By priorities, and then in turns of 8 steps by a word: so what polls comes to its end.
abbrev pub priority_by_word : ℕ → ℕ → ℕ → Rule
priority_by_word seed fair_steps word before image w =
    if nat_lt (length before) (priority_steps fair_steps) then highest_free seed fair_steps before image w
    else turn_by_word 8 word before image w

abbrev pub next_by_priority : ℕ → ℕ → Rule
next_by_priority seed fair_steps before image w =
    priority_by_word seed fair_steps (random_word seed (length before)) before image w
