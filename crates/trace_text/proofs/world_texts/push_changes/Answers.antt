use Rattle.std.proofs.Common.{◌++◌, ◌∙◌, ap, arith, string_bytes}
use Rattle.tag_memory.specs.Storage.{cell_at}
use Rattle.trace_text.specs.WorldTexts.{change, changes}
use Rattle.trace_text.proofs.WorldSteps.{change_written, changes_end}
use Rattle.trace_text.proofs.world_texts.push_changes.Goals as goal

pub loop-cell-preserved : goal.loop-cell-preserved
loop-cell-preserved g c =
    let memory = (g.T.WorldReaders.world c.args.readers.now).memory in
    let at = c.loop-cell.invariant.address in
    let written = c.in_ok-push_change.ensures
    ∙ ap (λ o. string_bytes c.loop-cell.text ++ change c.loop-cell.address c.cell-item.result o) c.word.ensures
    ∙ ap (λ a. string_bytes c.loop-cell.text ++ change a c.cell-item.result (cell_at memory a)) at in
    record {
      address = omega (arith, at);
      whole =
          change_written memory c.args.cells.now c.loop-cell.cell-index c.cell-item.result
          (string_bytes c.loop-cell.text)
          (string_bytes c.push_change.new.text) (string_bytes c.args.text.now ++ changes 0 memory c.args.cells.now)
          c.loop-cell-test.true c.cell-item.is written c.loop-cell.invariant.whole;
    }

pub returns : goal.returns
returns g c =
    let memory = (g.T.WorldReaders.world c.args.readers.now).memory in
    changes_end memory c.args.cells.now c.loop-cell.cell-index (string_bytes c.loop-cell.text)
    (string_bytes c.args.text.now ++ changes 0 memory c.args.cells.now)
    (omega (arith, c.loop-cell-test.false)) c.loop-cell.invariant.whole
