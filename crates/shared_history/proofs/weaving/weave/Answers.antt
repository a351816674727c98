use Rattle.std.proofs.Common.{◌∙◌, ◌+◌, ap, arith, length, refl}
use Rattle.std.proofs.lemmas.Option.{slice_get_within}
use Rattle.shared_history.proofs.SoFar.{nothing-yet, none-counted, done-within}
use Rattle.shared_history.proofs.Turns.{is-turn, stands, turn-within, turn-from, turns, turned, pair-there}
use Rattle.shared_history.proofs.Turns.{pair-small}
use Rattle.shared_history.proofs.Endings.{left-from, rested, all-done}
use Rattle.shared_history.proofs.Places.{read-at}
use Rattle.shared_history.proofs.Room.{left-all, left-less, left-one}
use Rattle.shared_history.proofs.weaving.weave.Goals as goal

pub loop-entry-init : goal.loop-entry-init
loop-entry-init g c =
    let done = c.in_ok-done.ensures.items_if_clones_equal (λ y e. e) in
    let taken = c.in_ok-taken.ensures.items_if_clones_equal (λ y e. e) in
    let n = length c.args.records.now in (
      rw (c.in_ok-schedule.ensures.items, done, taken) (
        nothing-yet c.args.shared.now c.args.records.now n refl,
        none-counted c.args.shared.now n c.requires.belong.one_each,
      ),
      rw done (omega (
        arith,
        left-all c.args.records.now n,
        c.in_ok-schedule.ensures.len,
        c.in_ok-schedule.ensures.exact,
        c.in_ok-schedule.schedule.small,
        c.count_steps.ensures,
      )),
    )

pub bounds-records-p : goal.bounds-records-p
bounds-records-p g c =
    stands c.args.shared.now c.args.records.now c.entries-entry-items.result.now c.loop-entry.entry-index
    c.entry-item.result c.requires.belong c.entries-entry-items.ensures.kept.processors
    c.entries-entry-items.ensures.is c.loop-entry-test.true c.entry-item.is

pub index-from-requires : goal.index-from-requires
index-from-requires g c =
    let t = is-turn c.args.shared.now c.args.records.now c.entries-entry-items.result.now c.loop-entry.entry-index
    c.entry-item.result c.index-records-p.result c.requires.belong c.entries-entry-items.ensures.kept.processors
    c.entries-entry-items.ensures.is c.loop-entry-test.true c.entry-item.is c.index-records-p.is in
    omega (arith, turn-within _ _ _ _ _ t, c.loop-entry.invariant.0.0.done_len, c.loop-entry.done.ok.0)

pub index-pair-requires : goal.index-pair-requires
index-pair-requires g c =
    let t = is-turn c.args.shared.now c.args.records.now c.entries-entry-items.result.now c.loop-entry.entry-index
    c.entry-item.result c.index-records-p.result c.requires.belong c.entries-entry-items.ensures.kept.processors
    c.entries-entry-items.ensures.is c.loop-entry-test.true c.entry-item.is c.index-records-p.is in
    omega (
      arith,
      turn-within _ _ _ _ _ t,
      c.loop-entry.invariant.0.1.taken_len,
      c.requires.belong.one_each,
      c.loop-entry.taken.ok.0,
    )

pub unwrap-upto-requires : goal.unwrap-upto-requires
unwrap-upto-requires g c =
    let t = is-turn c.args.shared.now c.args.records.now c.entries-entry-items.result.now c.loop-entry.entry-index
    c.entry-item.result c.index-records-p.result c.requires.belong c.entries-entry-items.ensures.kept.processors
    c.entries-entry-items.ensures.is c.loop-entry-test.true c.entry-item.is c.index-records-p.is in
    c.place.ensures.there.1
    (pair-there _ _ _ _ _ _ _ t c.loop-entry.invariant.0.1 c.requires.belong c.requires.entries c.index-pair.ensures)

pub overflow_add-upto : goal.overflow_add-upto
overflow_add-upto g c =
    let t = is-turn c.args.shared.now c.args.records.now c.entries-entry-items.result.now c.loop-entry.entry-index
    c.entry-item.result c.index-records-p.result c.requires.belong c.entries-entry-items.ensures.kept.processors
    c.entries-entry-items.ensures.is c.loop-entry-test.true c.entry-item.is c.index-records-p.is in
    let place = rw c.unwrap-upto.ensures at c.place.ensures.place in
    let below = turn-within _ _ _ _ _ t in
    omega (
      arith,
      place.within,
      left-one c.args.records.now c.loop-entry.done.items c.entry-item.result.p
          c.index-records-p.result t.record_is (omega (arith, below, c.loop-entry.invariant.0.0.done_len)),
      done-within _ _ _ _ _ _ _ c.loop-entry.invariant.0.0 t.record_is,
      c.loop-entry.invariant.1,
      c.loop-entry.schedule.ok.0,
      c.loop-entry.schedule.small,
    )

pub push_steps-requires-clause-order : goal.push_steps-requires-clause-order
push_steps-requires-clause-order g c =
    let t = is-turn c.args.shared.now c.args.records.now c.entries-entry-items.result.now c.loop-entry.entry-index
    c.entry-item.result c.index-records-p.result c.requires.belong c.entries-entry-items.ensures.kept.processors
    c.entries-entry-items.ensures.is c.loop-entry-test.true c.entry-item.is c.index-records-p.is in
    let place = rw c.unwrap-upto.ensures at c.place.ensures.place in
    let goes = turns _ _ _ _ _ _ _ _ _ _ t c.loop-entry.invariant.0 c.requires.belong c.requires.entries
    c.entries-entry-items.ensures.kept.legal c.index-pair.ensures place in
    let from = turn-from _ _ _ _ _ _ _ _ t c.loop-entry.invariant.0.0 c.index-from.ensures in
    omega (arith, goes.from, from)

pub push_steps-requires-clause-room : goal.push_steps-requires-clause-room
push_steps-requires-clause-room g c =
    let t = is-turn c.args.shared.now c.args.records.now c.entries-entry-items.result.now c.loop-entry.entry-index
    c.entry-item.result c.index-records-p.result c.requires.belong c.entries-entry-items.ensures.kept.processors
    c.entries-entry-items.ensures.is c.loop-entry-test.true c.entry-item.is c.index-records-p.is in
    let place = rw c.unwrap-upto.ensures at c.place.ensures.place in
    let goes = turns _ _ _ _ _ _ _ _ _ _ t c.loop-entry.invariant.0 c.requires.belong c.requires.entries
    c.entries-entry-items.ensures.kept.legal c.index-pair.ensures place in
    let from = turn-from _ _ _ _ _ _ _ _ t c.loop-entry.invariant.0.0 c.index-from.ensures in
    let below = turn-within _ _ _ _ _ t in
    omega (
      arith,
      goes.upto,
      from,
      left-one c.args.records.now c.loop-entry.done.items c.entry-item.result.p
          c.index-records-p.result t.record_is (omega (arith, below, c.loop-entry.invariant.0.0.done_len)),
      c.loop-entry.invariant.1,
    )

pub index_mut-requires : goal.index_mut-requires
index_mut-requires g c =
    let t = is-turn c.args.shared.now c.args.records.now c.entries-entry-items.result.now c.loop-entry.entry-index
    c.entry-item.result c.index-records-p.result c.requires.belong c.entries-entry-items.ensures.kept.processors
    c.entries-entry-items.ensures.is c.loop-entry-test.true c.entry-item.is c.index-records-p.is in
    omega (arith, turn-within _ _ _ _ _ t, c.loop-entry.invariant.0.0.done_len, c.loop-entry.done.ok.0)

pub overflow_add-pair : goal.overflow_add-pair
overflow_add-pair g c =
    let t = is-turn c.args.shared.now c.args.records.now c.entries-entry-items.result.now c.loop-entry.entry-index
    c.entry-item.result c.index-records-p.result c.requires.belong c.entries-entry-items.ensures.kept.processors
    c.entries-entry-items.ensures.is c.loop-entry-test.true c.entry-item.is c.index-records-p.is in
    let b = c.entries-entry-items.type_inv.0 in
    omega (
      arith,
      pair-small _ _ _ _ _ _ _ t c.loop-entry.invariant.0.1 c.requires.belong c.index-pair.ensures,
      c.loop-entry-test.true,
      b,
    )

pub index_mut-requires-in-loop-entry : goal.index_mut-requires-in-loop-entry
index_mut-requires-in-loop-entry g c =
    let t = is-turn c.args.shared.now c.args.records.now c.entries-entry-items.result.now c.loop-entry.entry-index
    c.entry-item.result c.index-records-p.result c.requires.belong c.entries-entry-items.ensures.kept.processors
    c.entries-entry-items.ensures.is c.loop-entry-test.true c.entry-item.is c.index-records-p.is in
    omega (
      arith,
      turn-within _ _ _ _ _ t,
      c.loop-entry.invariant.0.1.taken_len,
      c.requires.belong.one_each,
      c.loop-entry.taken.ok.0,
    )

pub loop-entry-preserved : goal.loop-entry-preserved
loop-entry-preserved g c =
    let t = is-turn c.args.shared.now c.args.records.now c.entries-entry-items.result.now c.loop-entry.entry-index
    c.entry-item.result c.index-records-p.result c.requires.belong c.entries-entry-items.ensures.kept.processors
    c.entries-entry-items.ensures.is c.loop-entry-test.true c.entry-item.is c.index-records-p.is in
    let place = rw c.unwrap-upto.ensures at c.place.ensures.place in
    let goes = turns _ _ _ _ _ _ _ _ _ _ t c.loop-entry.invariant.0 c.requires.belong c.requires.entries
    c.entries-entry-items.ensures.kept.legal c.index-pair.ensures place in
    let from = turn-from _ _ _ _ _ _ _ _ t c.loop-entry.invariant.0.0 c.index-from.ensures in
    let below = turn-within _ _ _ _ _ t in
    let less = left-less c.args.records.now c.loop-entry.done.items c.entry-item.result.p (c.unwrap-upto.result + 1)
    c.index-records-p.result t.record_is (omega (arith, below, c.loop-entry.invariant.0.0.done_len))
    goes.from goes.upto in (
      turned _ _ _ _ _ _ _ _ _ _ _ _ _ t c.loop-entry.invariant.0 c.requires.belong goes c.index-from.ensures
          c.index-pair.ensures c.steps-steps.ensures c.push_steps.ensures.items,
      omega (
        arith,
        less,
        from,
        goes.from,
        c.loop-entry.invariant.1,
        c.push_steps.ensures.len,
        c.push_steps.ensures.capacity,
      ),
    )

pub push_steps-requires-in-loop-p-clause-order : goal.push_steps-requires-in-loop-p-clause-order
push_steps-requires-in-loop-p-clause-order g c =
    let here = read-at c.args.records.now c.loop-p.p c.index-records-p-in-loop-p.result c.loop-p-test.true
    c.index-records-p-in-loop-p.is in
    let from = left-from _ _ _ _ _ _ _ _ c.loop-p.invariant.0.0 here c.index-from-in-loop-p.ensures in
    let upto = c.len-upto.ensures ∙ ap length c.steps-steps-in-loop-p.ensures in
    omega (arith, from.1, upto)

pub push_steps-requires-in-loop-p-clause-room : goal.push_steps-requires-in-loop-p-clause-room
push_steps-requires-in-loop-p-clause-room g c =
    let here = read-at c.args.records.now c.loop-p.p c.index-records-p-in-loop-p.result c.loop-p-test.true
    c.index-records-p-in-loop-p.is in
    let from = left-from _ _ _ _ _ _ _ _ c.loop-p.invariant.0.0 here c.index-from-in-loop-p.ensures in
    let upto = c.len-upto.ensures ∙ ap length c.steps-steps-in-loop-p.ensures in
    let below = slice_get_within c.args.records.now c.loop-p.p c.index-records-p-in-loop-p.result here in
    omega (
      arith,
      from.0,
      upto,
      c.loop-p.invariant.1,
      left-one c.args.records.now c.loop-p.done.items c.loop-p.p
          c.index-records-p-in-loop-p.result here (omega (arith, below, c.loop-p.invariant.0.0.done_len)),
    )

pub loop-p-preserved : goal.loop-p-preserved
loop-p-preserved g c =
    let here = read-at c.args.records.now c.loop-p.p c.index-records-p-in-loop-p.result c.loop-p-test.true
    c.index-records-p-in-loop-p.is in
    let from = left-from _ _ _ _ _ _ _ _ c.loop-p.invariant.0.0 here c.index-from-in-loop-p.ensures in
    let upto = c.len-upto.ensures ∙ ap length c.steps-steps-in-loop-p.ensures in
    let below = slice_get_within c.args.records.now c.loop-p.p c.index-records-p-in-loop-p.result here in
    let less = left-less c.args.records.now c.loop-p.done.items c.loop-p.p c.len-upto.result
    c.index-records-p-in-loop-p.result here (omega (arith, below, c.loop-p.invariant.0.0.done_len))
    (omega (arith, from.0, from.1, upto)) (omega (arith, upto)) in (
      rested _ _ _ _ _ _ _ _ _ _ _ c.loop-p.invariant.0 c.requires.belong c.requires.entries here
          c.index-from-in-loop-p.ensures c.steps-steps-in-loop-p.ensures c.len-upto.ensures c.number.ensures.is
          c.push_steps-in-loop-p.ensures.items,
      omega (
        arith,
        less,
        from.0,
        from.1,
        upto,
        c.loop-p.invariant.1,
        c.push_steps-in-loop-p.ensures.len,
        c.push_steps-in-loop-p.ensures.capacity,
      ),
    )

pub returns : goal.returns
returns g c =
    all-done _ _ _ _ c.loop-p.p c.requires.belong c.requires.entries c.loop-p-test.false c.loop-p.invariant.0
