use Rattle.std.proofs.Common.{◌++◌, ap, ◌∙◌}
use Rattle.stream_core.specs.StatusWords.{status_number}
use Rattle.dead_registers.specs.Clearing.{cleared_stream}
use Rattle.world_keys.specs.StreamNumbers.{halves, status_code}
use Rattle.world_keys.proofs.Streams.{numbers_are}
use Rattle.world_keys.proofs.stream_numbers.stream_numbers.Goals as goal

pub returns-clause-is : goal.returns-clause-is
returns-clause-is c =
    numbers_are (cleared_stream c.args.live.now c.args.stream.now) c.in_ok-numbers.numbers.items c.push_registers.new.numbers.items
    c.push_targets.new.numbers.items c.push_halves.new.numbers.items c.push_halves-2.new.numbers.items
    c.push_halves-3.new.numbers.items c.push_halves-4.new.numbers.items c.in_ok-numbers.ensures.items
    c.in_ok-push_registers.ensures.is c.in_ok-push_targets.ensures.is
    (c.in_ok-push_halves.ensures
    ∙ ap (λ n. c.push_targets.new.numbers.items ++ halves n)
    (c.status_bits.ensures.is ∙ ap status_number c.status_word.ensures))
    (c.in_ok-push_halves-2.ensures ∙ ap (λ n. c.push_halves.new.numbers.items ++ halves n) c.xr.ensures)
    (c.in_ok-push_halves-3.ensures
    ∙ ap (λ n. c.push_halves-2.new.numbers.items ++ halves n) (c.from.ensures ∙ c.retries.ensures))
    (c.in_ok-push_halves-4.ensures
    ∙ ap (λ n. c.push_halves-3.new.numbers.items ++ halves n)
    (c.status_code.ensures.is ∙ ap status_code c.status.ensures))
