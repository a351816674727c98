use Rattle.std.proofs.Common.{◌≡◌, ap, sym, ◌∙◌, subst, rules}
use Rattle.dead_registers.specs.Clearing.{cleared}
use Rattle.world_keys.specs.Tables.{place_in, Has}
use Rattle.world_keys.specs.WorldKeys.{processor_in}
use Rattle.world_keys.proofs.Marks.{held_kept, numbers_kept}
use Rattle.world_keys.proofs.keys.processor_place.Goals as goal

pub returns-clause-is : goal.returns-clause-is
returns-clause-is g c =
    let proc = processor_in (cleared c.args.live.now c.args.machine.now.world) c.args.p in
    let same =
    numbers_kept c.processor_numbers.new.contents c.place.new.self c.args.machine.now.image proc
    c.in_ok-place.ensures.grown c.in_ok-numbers.ensures.held in
    let at : c.in_ok-place.place ≡ place_in c.place.new.self c.in_ok-numbers.numbers.items = search rules in
    at ∙ ap (place_in c.place.new.self) (c.in_ok-numbers.ensures.is ∙ sym same)

pub returns-clause-known : goal.returns-clause-known
returns-clause-known g c =
    let proc = processor_in (cleared c.args.live.now c.args.machine.now.world) c.args.p in
    let grown = c.in_ok-place.ensures.grown in
    let held = c.in_ok-numbers.ensures.held in
    let image = c.args.machine.now.image in
    let same = numbers_kept c.processor_numbers.new.contents c.place.new.self image proc grown held in
    record {
      held = held_kept c.processor_numbers.new.contents c.place.new.self image proc grown held;
      numbers = subst (Has c.place.new.self) (c.in_ok-numbers.ensures.is ∙ sym same) (search rules);
    }
