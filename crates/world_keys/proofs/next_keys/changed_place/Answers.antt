use Rattle.std.proofs.Common.{◌≡◌, ap, sym, ◌∙◌, subst, rules}
use Rattle.dead_registers.specs.Clearing.{cleared}
use Rattle.world_keys.specs.Tables.{place_in, Has}
use Rattle.world_keys.specs.WorldKeys.{processor_in, processor_numbers, IsHeld}
use Rattle.world_keys.proofs.Marks.{held_kept, numbers_kept}
use Rattle.world_keys.proofs.next_keys.changed_place.Goals as goal

pub returns-in_ok-place-in-Some-clause-is : goal.returns-in_ok-place-in-Some-clause-is
returns-in_ok-place-in-Some-clause-is g c =
    let proc = processor_in (cleared c.args.live.now c.args.machine.now.world) c.args.change.step.p in
    let mid = c.changed_numbers.new.contents in
    let image = c.args.machine.now.image in
    let is : c.in-Some.numbers.items ≡ processor_numbers mid proc = search rules in
    let held : IsHeld mid image proc = search rules in
    let same = numbers_kept mid c.place.new.self image proc c.in_ok-place-in-Some.ensures.grown held in
    let at : c.in_ok-place-in-Some.place ≡ place_in c.place.new.self c.in-Some.numbers.items = search rules in
    at ∙ ap (place_in c.place.new.self) (is ∙ sym same)

pub returns-in_ok-place-in-Some-clause-known : goal.returns-in_ok-place-in-Some-clause-known
returns-in_ok-place-in-Some-clause-known g c =
    let proc = processor_in (cleared c.args.live.now c.args.machine.now.world) c.args.change.step.p in
    let mid = c.changed_numbers.new.contents in
    let image = c.args.machine.now.image in
    let is : c.in-Some.numbers.items ≡ processor_numbers mid proc = search rules in
    let held : IsHeld mid image proc = search rules in
    let grown = c.in_ok-place-in-Some.ensures.grown in
    let same = numbers_kept mid c.place.new.self image proc grown held in
    record {
      held = held_kept mid c.place.new.self image proc grown held;
      numbers = subst (Has c.place.new.self) (is ∙ sym same) (search rules);
    }
