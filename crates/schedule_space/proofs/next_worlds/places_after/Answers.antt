use Rattle.std.proofs.Common.{◌∙◌, arith, rules}
use Rattle.schedule_space.proofs.KnownSteps.{key_many, there_next, key_from, at_next, at_stays}
use Rattle.schedule_space.proofs.next_worlds.places_after.Goals as goal

pub places_in-requires : goal.places_in-requires
places_in-requires g c =
    let m = c.args.machine.now in
    omega (
      arith,
      c.requires.there,
      key_many m.image c.args.live.now c.args.contents.now m.world c.args.before.now c.requires.before,
    )

pub places_in-requires-2 : goal.places_in-requires-2
places_in-requires-2 g c =
    let m = c.args.machine.now in
    let n = c.in_ok-next.next in
    omega (
      arith,
      there_next m.image m.world c.args.step n c.requires.there c.in_ok-next.ensures.world,
      key_many n.image c.args.live.now c.next_key.new.contents n.world c.deref.result.now
          (c.deref.ensures.value ∙ c.in_ok-key.ensures.is),
    )

pub returns-then-eq-clause-left : goal.returns-then-eq-clause-left
returns-then-eq-clause-left g c =
    let m = c.args.machine.now in
    at_stays m.image c.args.live.now c.args.contents.now m.world c.args.step c.args.before.now c.places_in.result
    (c.reach_of-reach.ensures.nothing (search rules)) c.requires.there c.requires.known c.requires.before
    c.places_in.ensures.content c.places_in.ensures.memory

pub next_key-requires : goal.next_key-requires
next_key-requires g c =
    let m = c.args.machine.now in (
      omega arith,
      key_from m.image c.args.live.now c.args.contents.now m.world c.args.step c.args.before.now c.in_ok-next.next
          c.change_of-change.result c.requires.known c.requires.before c.requires.there c.in_ok-next.ensures.image
          c.in_ok-next.ensures.world c.change_of-change.ensures.step c.change_of-change.ensures.memory
          c.change_of-change.ensures.others,
    )

pub returns-clause-left : goal.returns-clause-left
returns-clause-left g c =
    let m = c.args.machine.now in
    at_next m.image c.args.live.now c.next_key.new.contents m.world c.args.step c.in_ok-next.next c.deref.result.now
    c.places_in-2.result c.in_ok-next.ensures.image c.in_ok-next.ensures.world c.requires.there (search rules)
    (search rules) (search rules) (search rules)
