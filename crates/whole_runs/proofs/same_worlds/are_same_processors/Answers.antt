use Rattle.std.proofs.Common.{◌<◌, ap, refl, ◌∙◌, length, arith}
use Rattle.image_file.specs.ImageValue.{ImageValue}
use Rattle.whole_runs.specs.SameWorlds.{processor_in}
use Rattle.whole_runs.proofs.SameLists.{same_more, same_end}
use Rattle.whole_runs.proofs.SameMachines.{here}
use Rattle.whole_runs.proofs.same_worlds.are_same_processors.Goals as goal

pub loop-p-preserved : goal.loop-p-preserved
loop-p-preserved g c =
    let one = c.args.one.now in
    let other = c.args.other.now in
    let p = c.loop-p.p in
    let entries = ap (λ (i : ImageValue). length i.entries) c.requires.image in
    let end = c.processors-p-end.ensures.is ∙ ap (λ (i : ImageValue). length i.entries) c.image-3.ensures.is in
    let below : p < length one.image.entries = omega (arith, end, c.loop-p-test.true) in
    let within : p < length other.image.entries = omega (arith, below, entries) in
    same_more one.world.processors other.world.processors p (processor_in one.world p) (processor_in other.world p)
    (here g.row.S one p c.image.ensures.kept below) (here g.row.S other p c.image-2.ensures.kept within)
    (c.is_same_processor.ensures.0 c.if-not-is_same_processor.false) c.loop-p.invariant

pub returns : goal.returns
returns g c =
    let one = c.args.one.now in
    let other = c.args.other.now in
    let entries = ap (λ (i : ImageValue). length i.entries) c.requires.image in
    let end = c.processors-p-end.ensures.is ∙ ap (λ (i : ImageValue). length i.entries) c.image-3.ensures.is in
    let many = c.image.ensures.kept.one_each in
    let as_many = c.image-2.ensures.kept.one_each in (
      λ _. same_end one.world.processors other.world.processors c.loop-p.p
          (omega (arith, end, many, c.loop-p-test.false))
          (omega (arith, end, as_many, entries, c.loop-p-test.false)) c.loop-p.invariant,
      λ _. refl,
    )
