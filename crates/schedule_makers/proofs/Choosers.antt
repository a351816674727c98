-- Each rule takes one of the running streams, and one wherever there is one.
use Rattle.std.proofs.Common.{◌≡◌, List, [], length, Some, None, sym, ◌∙◌, subst}
use Rattle.std.specs.Prelude.{Contains}
use Rattle.image_file.specs.ImageValue.{ImageValue}
use Rattle.processor.specs.World.{World}
use Rattle.processor.specs.declared.steps.Step.{Step}
use Rattle.machine.specs.MachineValue.{MachineValue}
use Rattle.waiting.specs.Running.{running_steps}
use Rattle.schedule_makers.specs.Randomness.{random_word}
use Rattle.schedule_makers.specs.Choosers.{rule_of}
use Rattle.schedule_makers.specs.declared.chooser.Chooser.{Chooser}
use Rattle.schedule_makers.specs.declared.chooser.Chooser.TheVariants as chooser
use Rattle.schedule_makers.proofs.Rules.{rounds-one, rounds-any, fair-one, fair-any}
use Rattle.schedule_makers.proofs.TurnTaken.{turns-one, turns-any}
use Rattle.schedule_makers.proofs.HighestFree.{priorities-one, priorities-any}
use Rattle.schedule_makers.proofs.LateTaken.{late-one, late-any}
use Rattle.schedule_makers.proofs.Randomness.{by-word-one, by-word-any, word-small}

rule-one : (c : Chooser) (before : List Step) (image : ImageValue) (w : World) (t : Step)
    → rule_of c before image w ≡ Some t → Contains (running_steps w) t
rule-one chooser.Rounds before image w t e = rounds-one before (running_steps w) t e
rule-one (chooser.Fair fair) before image w t e = fair-one before (running_steps w) t e
rule-one (chooser.Random words) before image w t e =
    by-word-one (random_word words.seed (length before)) (running_steps w) t e
rule-one (chooser.Turns average words) before image w t e =
    turns-one average (random_word words.seed (length before)) before image w t e
rule-one (chooser.LeftOut late words) before image w t e =
    late-one late.seed late.steps (random_word words.seed (length before)) before image w t e
rule-one (chooser.Priorities p words) before image w t e =
    priorities-one p.seed p.fair_steps (random_word words.seed (length before)) before image w t e

rule-any : (c : Chooser) (before : List Step) (image : ImageValue) (w : World) → rule_of c before image w ≡ None
    → running_steps w ≡ []
rule-any chooser.Rounds before image w e = rounds-any before (running_steps w) e
rule-any (chooser.Fair fair) before image w e = fair-any before (running_steps w) e
rule-any (chooser.Random words) before image w e =
    by-word-any (random_word words.seed (length before)) (running_steps w) (word-small words.seed (length before)) e
rule-any (chooser.Turns average words) before image w e =
    turns-any average (random_word words.seed (length before)) before image w e
rule-any (chooser.LeftOut late words) before image w e =
    late-any late.seed late.steps (random_word words.seed (length before)) before image w e
rule-any (chooser.Priorities p words) before image w e =
    priorities-any p.seed p.fair_steps (random_word words.seed (length before)) before image w e

-- What a chooser has found among the streams that run.

pub some-listed : (c : Chooser) (before : List Step) (m : MachineValue) (running : List Step) (t : Step)
    → running ≡ running_steps m.world → Some t ≡ rule_of c before m.image m.world → Contains running t
some-listed c before m running t is e =
    subst (λ ts. Contains ts t) (sym is) (rule-one c before m.image m.world t (sym e))

pub none-listed : (c : Chooser) (before : List Step) (m : MachineValue) (running : List Step)
    → running ≡ running_steps m.world → None ≡ rule_of c before m.image m.world → running ≡ []
none-listed c before m running is e = is ∙ rule-any c before m.image m.world (sym e)
