-- What choosers keep, and by which rule each takes steps.
use Rattle.std.specs.Prelude.{◌<◌, ℕ, List, length}
use Rattle.processor.specs.declared.steps.Step.{Step}
use Rattle.schedule_makers.specs.Rules.{Rule, next_in_rounds, next_fair}
use Rattle.schedule_makers.specs.Randomness.{random_word, next_at_random}
use Rattle.schedule_makers.specs.Turns.{next_in_turns}
use Rattle.schedule_makers.specs.Priorities.{priority_by_word}
use Rattle.schedule_makers.specs.LeftOut.{late_by_word}
use Rattle.schedule_makers.specs.Changes.{HasChanges}
use Rattle.schedule_makers.specs.Fair.{AreLast}
use Rattle.schedule_makers.specs.Words.{AreWordsAfter}
use Rattle.schedule_makers.specs.declared.left_out.LeftOut.{LeftOut}
use Rattle.schedule_makers.specs.declared.priorities.Priorities.{Priorities}
use Rattle.schedule_makers.specs.declared.chooser.Chooser.{Chooser}
use Rattle.schedule_makers.specs.declared.chooser.Chooser.TheVariants as chooser

-- the rule of these priorities, where turns are by the words of a seed
abbrev pub priorities_of : Priorities → ℕ → Rule
priorities_of p seed before image w =
    priority_by_word p.seed p.fair_steps (random_word seed (length before)) before image w

-- the rule that leaves this stream out, where turns are by the words of a seed
abbrev pub left_out_of : LeftOut → ℕ → Rule
left_out_of late seed before image w =
    late_by_word late.seed late.steps (random_word seed (length before)) before image w

-- the rule of a chooser
abbrev pub rule_of : Chooser → Rule
rule_of chooser.Rounds = next_in_rounds
rule_of (chooser.Fair fair) = next_fair
rule_of (chooser.Random words) = next_at_random words.seed
rule_of (chooser.Turns average words) = next_in_turns average words.seed
rule_of (chooser.LeftOut late words) = left_out_of late words.seed
rule_of (chooser.Priorities p words) = priorities_of p words.seed

-- What a chooser keeps is of these steps.
abbrev pub Follows : Chooser → List Step → Type 0
Follows chooser.Rounds before = Unit {0}
Follows (chooser.Fair fair) before = AreLast fair.lasts before
Follows (chooser.Random words) before = AreWordsAfter words before
Follows (chooser.Turns average words) before = (0 < average) × AreWordsAfter words before
Follows (chooser.LeftOut late words) before = AreWordsAfter words before
Follows (chooser.Priorities p words) before = HasChanges p × AreWordsAfter words before
