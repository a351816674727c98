use Rattle.std.proofs.Common.{◌≡◌, ◌+◌, ◌<◌, length, set, get_or, sym, ap, ◌∙◌, subst, arith, rules}
use Rattle.processor.specs.World.{World}
use Rattle.world_keys.specs.DeadRegisters.Clearing.{cleared}
use Rattle.world_keys.specs.WorldKeys.{key_of, IsKnown}
use Rattle.schedule_space.proofs.KnownSteps.{key_many, key_is, key_same, key_known, absent_stays}
use Rattle.schedule_space.specs.Spaces.{machine_by}
use Rattle.schedule_space.proofs.next_worlds.key_after.Goals as goal

pub returns-then-here-before-clause-same : goal.returns-then-here-before-clause-same
returns-then-here-before-clause-same g c = λ _.
    let m = machine_by c.args.machines.now.first.image c.args.route.begin.now c.args.route.links.now c.args.route.place in
    let t = c.args.seen.now.contents in
    let stays =
    absent_stays m.image m.world c.args.step
    (λ there. omega (arith, there, c.from-here.ensures, key_many m.image c.args.live.now t m.world c.args.before.now c.requires.before.is_key)) in
    c.requires.before.is_key ∙ ap (λ (w : World). key_of t m.image (cleared c.args.live.now w)) (sym stays)

pub returns-then-here-before-clause-known : goal.returns-then-here-before-clause-known
returns-then-here-before-clause-known g c =
    let m = machine_by c.args.machines.now.first.image c.args.route.begin.now c.args.route.links.now c.args.route.place in
    let t = c.args.seen.now.contents in
    let stays =
    absent_stays m.image m.world c.args.step
    (λ there. omega (arith, there, c.from-here.ensures, key_many m.image c.args.live.now t m.world c.args.before.now c.requires.before.is_key)) in
    subst (λ (w : World). IsKnown t m.image (cleared c.args.live.now w)) (sym stays) c.requires.before.known

pub returns-then-left-before-2-clause-same : goal.returns-then-left-before-2-clause-same
returns-then-left-before-2-clause-same g c = λ _.
    let m = machine_by c.args.machines.now.first.image c.args.route.begin.now c.args.route.links.now c.args.route.place in
    let old = c.args.seen.now.contents in
    let new = c.left_by.new.seen.contents in
    let u = c.args.step in
    let key = c.args.before.now in
    let l = c.in_ok-left.left in
    let there : u.p < length m.world.processors =
    omega (arith, c.from-here.ensures, key_many m.image c.args.live.now old m.world key c.requires.before.is_key) in
    let at : c.from-here.result ≡ u.p = c.from-here.ensures in
    let content : l.content ≡ get_or key (u.p + 1) 0 =
    subst (λ n. l.content ≡ get_or key (n + 1) 0) at (omega arith) in
    let memory : l.memory ≡ get_or key 0 0 = omega arith in
    key_is m.image c.args.live.now old new m.world u key key l c.requires.before.known c.requires.before.is_key there
    c.in_ok-left.ensures.grown c.in_ok-left.ensures.left (key_same key u.p l content memory)

pub returns-then-left-before-2-clause-known : goal.returns-then-left-before-2-clause-known
returns-then-left-before-2-clause-known g c =
    let m = machine_by c.args.machines.now.first.image c.args.route.begin.now c.args.route.links.now c.args.route.place in
    let old = c.args.seen.now.contents in
    let key = c.args.before.now in
    let there : c.args.step.p < length m.world.processors =
    omega (arith, c.from-here.ensures, key_many m.image c.args.live.now old m.world key c.requires.before.is_key) in
    key_known m.image c.args.live.now old c.left_by.new.seen.contents m.world c.args.step key c.in_ok-left.left c.requires.before.known
    c.requires.before.is_key there c.in_ok-left.ensures.grown c.in_ok-left.ensures.left

pub returns-clause-is : goal.returns-clause-is
returns-clause-is g c =
    let m = machine_by c.args.machines.now.first.image c.args.route.begin.now c.args.route.links.now c.args.route.place in
    let old = c.args.seen.now.contents in
    let new = c.left_by.new.seen.contents in
    let u = c.args.step in
    let key = c.args.before.now in
    let l = c.in_ok-left.left in
    let items : c.in_ok-key.key.items ≡ key = search rules in
    let there : u.p < length m.world.processors =
    omega (arith, c.from-here.ensures, key_many m.image c.args.live.now old m.world key c.requires.before.is_key) in
    key_is m.image c.args.live.now old new m.world u key
    (set (set c.in_ok-key.key.items 0 l.memory) (c.from-here.result + 1) l.content) l c.requires.before.known
    c.requires.before.is_key there c.in_ok-left.ensures.grown c.in_ok-left.ensures.left
    (λ i. set (set (items i) 0 l.memory) (c.from-here.ensures i + 1) l.content)

pub returns-clause-known : goal.returns-clause-known
returns-clause-known g c =
    let m = machine_by c.args.machines.now.first.image c.args.route.begin.now c.args.route.links.now c.args.route.place in
    let old = c.args.seen.now.contents in
    let key = c.args.before.now in
    let there : c.args.step.p < length m.world.processors =
    omega (arith, c.from-here.ensures, key_many m.image c.args.live.now old m.world key c.requires.before.is_key) in
    key_known m.image c.args.live.now old c.left_by.new.seen.contents m.world c.args.step key c.in_ok-left.left
    c.requires.before.known c.requires.before.is_key there c.in_ok-left.ensures.grown c.in_ok-left.ensures.left
