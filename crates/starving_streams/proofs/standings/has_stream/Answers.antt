use Rattle.std.proofs.Common.{◌≡◌, rules, true, slice_index_or}
use Rattle.std.proofs.lemmas.List.Elements.{Contains-get_or}
use Rattle.std.proofs.Common.{subst, Contains}
use Rattle.processor.specs.declared.steps.Step.{Step}
use Rattle.fair_rounds.specs.Classes.{is_step}
use Rattle.fair_rounds.proofs.Lists.{same_step}
use Rattle.starving_streams.proofs.standings.has_stream.Goals as goal

pub returns-then-is_step : goal.returns-then-is_step
returns-then-is_step c = λ yes.
    let streams = c.args.streams.now in
    let n = c.loop-number.number in
    let none : Step = record { p = 0; s = 0 } in
    let own : is_step c.args.who (slice_index_or streams n none) ≡ true = search rules in
    subst (Contains streams) (same_step c.args.who (slice_index_or streams n none) own)
    (Contains-get_or streams n none (search rules))
