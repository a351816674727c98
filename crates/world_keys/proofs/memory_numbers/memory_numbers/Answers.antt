use Rattle.std.proofs.Common.{◌≡◌, sym, ap, ◌∙◌, arith, get_or, length}
use Rattle.image_file.specs.ImageValue.{ImageValue}
use Rattle.world_keys.specs.MemoryNumbers.{memory_numbers}
use Rattle.world_keys.proofs.Memories.{change_more, change_none, cell_at_place}
use Rattle.world_keys.proofs.memory_numbers.memory_numbers.Goals as goal

pub loop-place-preserved : goal.loop-place-preserved
loop-place-preserved g c =
    let image = c.args.machine.now.image in
    let memory = c.args.machine.now.world.memory in
    let place = c.loop-place.place in
    let same : c.cells-cells.result.now ≡ image.cells =
    c.cells-cells.ensures.is ∙ ap (λ (i : ImageValue). i.cells) c.image.ensures.is in
    change_more (memory_numbers image memory) c.loop-place.numbers.items c.push_change.new.numbers.items image.cells
    memory.cells place c.index-cells-place.result c.unwrap-word.result c.loop-place.invariant
    (omega (arith, c.loop-place-test.true, ap length same))
    (c.index-cells-place.is ∙ ap (λ xs. get_or xs place c.index-cells-place.result) same)
    (sym (cell_at_place memory place) ∙ sym c.word.ensures ∙ c.unwrap-word.ensures) c.in_ok-push_change.ensures

pub returns : goal.returns
returns g c =
    let image = c.args.machine.now.image in
    let memory = c.args.machine.now.world.memory in
    let same : c.cells-cells.result.now ≡ image.cells =
    c.cells-cells.ensures.is ∙ ap (λ (i : ImageValue). i.cells) c.image.ensures.is in
    change_none (memory_numbers image memory) c.loop-place.numbers.items image.cells memory.cells c.loop-place.place
    c.loop-place.invariant (omega (arith, c.loop-place-test.false, ap length same))
