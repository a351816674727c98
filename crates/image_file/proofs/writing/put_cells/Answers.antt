use Rattle.std.proofs.Common.{◌<◌, ◌^◌, subst, arith}
use Rattle.std.proofs.lemmas.Grind.{common_steps}
use Rattle.std.proofs.lemmas.List.Elements.{All-more}
use Rattle.tag_memory.specs.Cell.{Cell}
use Rattle.image_file.proofs.writing.put_cells.Goals as goal

pub loop-cell-preserved : goal.loop-cell-preserved
loop-cell-preserved c =
    record {
      is = grind (arith, common_steps, c.in_ok-put_cell.ensures.is, c.cell-item.is);
      fit = All-more (λ (x : Cell). x.value < 2 ^ 64) c.args.cells.now c.loop-cell.cell-index c.cell-item.result
          c.loop-cell-test.true c.loop-cell.invariant.fit
          (subst (λ (x : Cell). x.value < 2 ^ 64) c.cell-item.is c.put_cell.ensures.fits);
    }
