-- The rule that a seed's number says (docs/MACHINE.md, "Schedules").
use Rattle.std.specs.Prelude.{◌==◌, ◌||◌, ◌%◌, ℕ, if◌then◌else◌}
use Rattle.schedule_makers.specs.Rules.{Rule}
use Rattle.schedule_makers.specs.Randomness.{next_at_random}
use Rattle.schedule_makers.specs.Turns.{next_in_turns}
use Rattle.schedule_makers.specs.LeftOut.{next_but_one_late}
use Rattle.schedule_makers.specs.Priorities.{next_by_priority}

-- Of eight seeds one is uniform over the running streams, one leaves a stream out, two take turns of 8 steps on average,
-- two turns of 32, and two go by priorities. The fair run of the same machine has so many steps.
abbrev pub rule_of_seed : ℕ → ℕ → Rule
rule_of_seed seed fair_steps =
    if seed % 8 == 0 then next_at_random seed
    else if seed % 8 == 4 then next_but_one_late seed fair_steps
    else if (seed % 8 == 1) || (seed % 8 == 5) then next_in_turns 8 seed
    else if (seed % 8 == 2) || (seed % 8 == 6) then next_in_turns 32 seed
    else next_by_priority seed fair_steps
