use Rattle.asm_text.proofs.RunCells.{no_cells, run_cut}
use Rattle.asm_text.proofs.runs.first_run.Goals as goal

pub returns-in_err-first-clause-runs : goal.returns-in_err-first-clause-runs
returns-in_err-first-clause-runs c =
    rw c.from_residual.ensures (no_cells c.args.cells.now c.in_err-first.ensures.item.3)

pub returns-clause-runs : goal.returns-clause-runs
returns-clause-runs c =
    run_cut c.args.cells.now c.in_ok-first.first.now c.run_length-times.result c.in_ok-first.ensures.item.3.0
    (c.in_ok-first.ensures.item.3.1 c.in_ok-first.first.now) c.run_length-times.ensures.count
