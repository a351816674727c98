use Rattle.std.proofs.Common.{arith, ◌∙◌, ◌-◌, sym, ap}
use Rattle.processor.specs.Histories.{pairs_of}
use Rattle.memory_lock.specs.Seats.{TurnPortValue, new_caller, caller_or_new}
use Rattle.memory_lock.proofs.Keeping.{M, splits, joins}
use Rattle.memory_lock.proofs.Ending.{made-pairs}
use Rattle.memory_lock.proofs.turns.runs.run_at_table.Goals as goal

pub split_seat-other-requires : goal.split_seat-other-requires
split_seat-other-requires g c =
    let at = c.requires.seat in (
      at.0.0,
      omega (arith, at.0.1),
      splits _ _ _ new_caller (ap (λ (m : M). m.0.is_spent) at.1) (ap (λ (m : M). m.0.other) at.1),
    )

pub join_seat-requires : goal.join_seat-requires
join_seat-requires g c =
    let one = c.into_seat-seat.ensures.seat in
    let two = c.into_seat-other.ensures.seat in (
      one.of.0 ∙ sym c.requires.room,
      two.of.0 ∙ sym c.requires.room,
      two.bare,
      omega (arith, c.requires.seat.0.1),
      joins _ _ _ _ _ one.at two.at,
    )

pub close_table-requires-clause-both : goal.close_table-requires-clause-both
close_table-requires-clause-both g c =
    let one = c.into_seat-seat.ensures.seat in
    let now = c.join_seat.ensures.2 in (
      ap (λ (m : M). m.0.is_spent) now ∙ one.at.0,
      ap (λ (m : M). m.0.own.stage) now ∙ one.at.2,
      (c.into_seat-other.result.me.0.own, ap (λ (m : M). m.0.other) now),
    )

pub returns-clause-one_made : goal.returns-clause-one_made
returns-clause-one_made g c =
    let one = c.into_seat-seat.ensures in
    let now = c.join_seat.ensures.2 in
    let number = ap (λ (m : M). m.0.number) now ∙ one.seat.number_is in
    let first = ap (λ (a : TurnPortValue). a.made) c.new-one_port.ensures
    ∙ ap (λ (m : M). m.0.own.made) c.split_seat-other.ensures.2
    ∙ ap (λ (m : M). m.0.own.made) c.requires.seat.1 in
    let made = made-pairs _ _ _ _ _ _ first c.drive_both.ensures.one_made in
    ap (λ n. pairs_of n c.close_table.result.history) (sym number) ∙ c.close_table.ensures.own
    ∙ ap (λ (m : M). m.0.own.made) now ∙ one.made ∙ made

pub returns-clause-two_made : goal.returns-clause-two_made
returns-clause-two_made g c =
    let one = c.into_seat-seat.ensures in
    let two = c.into_seat-other.ensures in
    let now = c.join_seat.ensures.2 in
    let number = ap (λ (m : M). m.0.number) now ∙ one.seat.number_is in
    let first = ap (λ (a : TurnPortValue). a.made) c.new-two_port.ensures
    ∙ ap (λ (m : M). m.0.own.made) c.split_seat-other.ensures.4
    ∙ ap (λ (m : M). (caller_or_new m.0.other).made) c.requires.seat.1 in
    let made = made-pairs _ _ _ _ _ _ first c.drive_both.ensures.two_made in
    ap (λ n. pairs_of (1 - n) c.close_table.result.history) (sym number)
    ∙ c.close_table.ensures.other c.into_seat-other.result.me.0.own (ap (λ (m : M). m.0.other) now) ∙ two.made
    ∙ made
