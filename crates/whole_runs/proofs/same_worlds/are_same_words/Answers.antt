use Rattle.std.proofs.Common.{ap, refl, sym, ◌∙◌, length, arith}
use Rattle.image_file.specs.ImageValue.{ImageValue}
use Rattle.whole_runs.proofs.SameLists.{same_end}
use Rattle.whole_runs.proofs.same_worlds.are_same_words.Goals as goal

pub returns : goal.returns
returns g c =
    let m = c.args.one.now.world.memory in
    let n = c.args.other.now.world.memory in
    let end = ap length (c.cells-index-end.ensures.is ∙ ap (λ (i : ImageValue). i.cells) c.image.ensures.is) in
    let one = c.requires.memory.cells in
    let other = c.requires.other_memory.cells in
    let cells =
    same_end m.cells n.cells c.loop-index.index (omega (arith, end, one, c.loop-index-test.false))
    (omega (arith, end, other, c.loop-index-test.false)) c.loop-index.invariant in
    let chain = c.requires.memory.chain ∙ sym c.requires.other_memory.chain in
    (λ _. λ i. record { cells = cells i; chain_limit = chain i }, λ _. refl)
