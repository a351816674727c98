use Rattle.std.proofs.Common.{◌≡◌, ◌≤◌, ◌∷◌, ◌++◌, [], ap, sym, ◌∙◌, subst, arith, rules, length, map}
use Rattle.std.proofs.lemmas.List.{take_all}
use Rattle.image_file.specs.ImageValue.{ImageValue}
use Rattle.dead_registers.specs.Clearing.{cleared}
use Rattle.tag_memory.specs.Storage.{TaggedMemory}
use Rattle.world_keys.specs.Tables.{place_in, Has}
use Rattle.world_keys.specs.MemoryNumbers.{memory_numbers}
use Rattle.world_keys.specs.WorldKeys.{processor_place, IsMemoryOf}
use Rattle.world_keys.proofs.Places.{extends_trans, has_extended}
use Rattle.world_keys.proofs.Clearings.{as_many_cleared, memory_cleared}
use Rattle.world_keys.proofs.Worlds.{known_more, key_more}
use Rattle.world_keys.proofs.keys.world_key.Goals as goal

pub loop-p-init : goal.loop-p-init
loop-p-init g c =
    let image = c.args.machine.now.image in
    let w = c.args.machine.now.world in
    let new = c.place.new.self in
    let same = memory_cleared c.args.live.now w in
    let place : c.in_ok-place.place ≡ place_in new (memory_numbers image w.memory) = search rules in
    let there : Has new (memory_numbers image w.memory) = search rules in
    record {
      grown = c.in_ok-place.ensures.grown;
      has = subst (λ (m : TaggedMemory). Has new (memory_numbers image m)) (sym same) there;
      known = λ k below. absurd (omega arith);
      key =
          c.in_ok-push.ensures.items
          ∙ ap (λ xs. xs ++ c.in_ok-place.place ∷ []) c.in_ok-key.ensures.items
          ∙ ap (λ k. k ∷ []) (place ∙ ap (λ (m : TaggedMemory). place_in new (memory_numbers image m)) (sym same));
    }

pub loop-p-preserved : goal.loop-p-preserved
loop-p-preserved g c =
    let image = c.args.machine.now.image in
    let w = cleared c.args.live.now c.args.machine.now.world in
    let ps = w.processors in
    let ns = memory_numbers image w.memory in
    let old = c.loop-p.contents in
    let new = c.processor_place.new.contents in
    let grown = c.in_ok-place-2.ensures.grown in
    let known = c.loop-p.invariant.known in
    let many = ap (λ (i : ImageValue). length i.entries) c.image.ensures.is in
    let same = as_many_cleared c.args.live.now c.args.machine.now.world in
    record {
      grown = extends_trans c.args.contents.now old new c.loop-p.invariant.grown grown;
      has = has_extended old new ns grown c.loop-p.invariant.has;
      known = known_more old new image ps c.loop-p.p grown known c.in_ok-place-2.ensures.known;
      key =
          key_more old new image ps c.loop-p.p c.in_ok-place-2.place ns c.loop-p.key.items c.push-in-loop-p.new.self.items
          grown (omega (arith, c.image.ensures.kept.one_each, many, same, c.loop-p-test.true)) known c.loop-p.invariant.has
          c.loop-p.invariant.key c.in_ok-place-2.ensures.is c.in_ok-push-2.ensures.items;
    }

pub returns-clause-is : goal.returns-clause-is
returns-clause-is g c =
    let m = c.args.machine.now in
    let w = cleared c.args.live.now m.world in
    let many = ap (λ (i : ImageValue). length i.entries) c.image.ensures.is in
    let same = as_many_cleared c.args.live.now m.world in
    let past : length w.processors ≤ c.loop-p.p =
    omega (arith, c.image.ensures.kept.one_each, many, same, c.processors-count.ensures.is, c.loop-p-test.false) in
    c.loop-p.invariant.key
    ∙ ap (λ ps. place_in c.loop-p.contents (memory_numbers m.image w.memory) ∷ map (processor_place c.loop-p.contents) ps)
    (take_all c.loop-p.p w.processors past)

pub returns-clause-known : goal.returns-clause-known
returns-clause-known g c =
    let m = c.args.machine.now in
    let many = ap (λ (i : ImageValue). length i.entries) c.image.ensures.is in
    let same = as_many_cleared c.args.live.now m.world in
    record {
      memory = subst (IsMemoryOf m.image) (sym (memory_cleared c.args.live.now m.world)) c.requires;
      numbers = c.loop-p.invariant.has;
      one_each = same ∙ c.image.ensures.kept.one_each;
      processors = λ k below.
          c.loop-p.invariant.known k
          (omega (arith, below, c.image.ensures.kept.one_each, many, same, c.processors-count.ensures.is, c.loop-p-test.false));
    }
