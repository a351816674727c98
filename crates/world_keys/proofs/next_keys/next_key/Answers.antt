use Rattle.std.proofs.Common.{◌≡◌, ◌+◌, refl, set, get_or, sym, ap, ◌∙◌, subst, rules, arith}
use Rattle.tag_memory.specs.Storage.{TaggedMemory}
use Rattle.dead_registers.specs.Clearing.{cleared}
use Rattle.world_keys.specs.Tables.{place_in, Has}
use Rattle.world_keys.specs.MemoryNumbers.{memory_numbers}
use Rattle.world_keys.specs.WorldKeys.{IsMemoryOf}
use Rattle.world_keys.proofs.Clearings.{as_many_cleared, memory_cleared}
use Rattle.world_keys.proofs.Nexts.{memory_before, memory_there, key_length, place_before, next_is, next_known}
use Rattle.world_keys.proofs.next_keys.next_key.Goals as goal

pub memory_place-requires : goal.memory_place-requires
memory_place-requires g c =
    let l = c.args.live.now in
    let old = c.args.contents.now in
    let image = c.args.machine.now.image in
    let w = cleared l c.args.machine.now.world in
    let key = c.args.before.now in
    let same = memory_cleared l c.args.machine.now.world in (
      omega arith,
      (
        c.requires.memory,
        (
          λ on. subst (λ (m : TaggedMemory). Has old (memory_numbers image m)) same
              (memory_there old image w c.args.change key c.requires.before on),
          λ on.
              memory_before old image w (get_or key 0 0) c.args.change key c.requires.before refl on
              ∙ ap (λ (m : TaggedMemory). place_in old (memory_numbers image m)) same,
        ),
      ),
    )

pub bounds-before-here : goal.bounds-before-here
bounds-before-here g c =
    let l = c.args.live.now in
    let w = cleared l c.args.machine.now.world in
    omega (
      arith,
      c.requires.there,
      c.from-here.ensures,
      as_many_cleared l c.args.machine.now.world,
      key_length c.args.contents.now c.args.machine.now.image w c.args.change c.args.before.now c.requires.before,
    )

pub changed_place-requires : goal.changed_place-requires
changed_place-requires g c =
    let l = c.args.live.now in
    let w = cleared l c.args.machine.now.world in
    let key = c.args.before.now in (
      omega arith,
      (
        c.requires.there,
        place_before c.args.contents.now c.memory_place.new.contents c.args.machine.now.image w
            c.args.change key (get_or key (c.from-here.result + 1) 0) c.requires.before c.in_ok-memory.ensures.grown
            (omega (arith, c.requires.there, as_many_cleared l c.args.machine.now.world))
            (ap (λ k. get_or key (k + 1) 0) c.from-here.ensures),
      ),
    )

pub index_mut-requires-2 : goal.index_mut-requires-2
index_mut-requires-2 g c =
    let l = c.args.live.now in
    let w = cleared l c.args.machine.now.world in
    omega (
      arith,
      c.requires.there,
      c.from-here.ensures,
      as_many_cleared l c.args.machine.now.world,
      key_length c.args.contents.now c.args.machine.now.image w c.args.change c.args.before.now c.requires.before,
      c.in_ok-key.ensures.len,
    )

pub returns-clause-is : goal.returns-clause-is
returns-clause-is g c =
    let l = c.args.live.now in
    let image = c.args.machine.now.image in
    let w = cleared l c.args.machine.now.world in
    let mid = c.memory_place.new.contents in
    let memory = c.in_ok-memory.memory in
    let place = c.in_ok-place.place in
    let same = sym (memory_cleared l c.args.machine.now.world) in
    let items : c.in_ok-key.key.items ≡ c.args.before.now = search rules in
    let at : c.from-here.result ≡ c.args.change.step.p = search rules in
    next_is c.args.contents.now mid c.changed_place.new.contents image w memory place c.args.change c.args.before.now
    (set (set c.in_ok-key.key.items 0 memory) (c.from-here.result + 1) place) c.requires.before
    c.in_ok-memory.ensures.grown c.in_ok-place.ensures.grown
    (c.in_ok-memory.ensures.is ∙ ap (λ (m : TaggedMemory). place_in mid (memory_numbers image m)) same)
    (subst (λ (m : TaggedMemory). Has mid (memory_numbers image m)) same c.in_ok-memory.ensures.there)
    c.in_ok-place.ensures.is (λ i. set (set (items i) 0 memory) (at i + 1) place)

pub returns-clause-known : goal.returns-clause-known
returns-clause-known g c =
    let l = c.args.live.now in
    let image = c.args.machine.now.image in
    let w = cleared l c.args.machine.now.world in
    let mid = c.memory_place.new.contents in
    let same = sym (memory_cleared l c.args.machine.now.world) in
    next_known c.args.contents.now mid c.changed_place.new.contents image w c.args.change c.args.before.now
    c.requires.before (subst (IsMemoryOf image) same c.requires.memory) c.in_ok-memory.ensures.grown
    c.in_ok-place.ensures.grown
    (subst (λ (m : TaggedMemory). Has mid (memory_numbers image m)) same c.in_ok-memory.ensures.there)
    c.in_ok-place.ensures.known
