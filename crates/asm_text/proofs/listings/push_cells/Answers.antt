use Rattle.std.proofs.Common.{◌≡◌, [], ◌∷◌}
use Rattle.std.specs.Prelude.{string_bytes}
use Rattle.asm_text.specs.Runs.{cell_runs}
use Rattle.asm_text.proofs.RunCells.{at_none}
use Rattle.asm_text.proofs.Listed.{run_pushed, runs_end}
use Rattle.asm_text.proofs.RunCells.{run_fits, no_runs_fit}
use Rattle.asm_text.proofs.listings.push_cells.Goals as goal

pub loop-count-preserved : goal.loop-count-preserved
loop-count-preserved c = record {
  is =
      run_pushed (cell_runs c.loop-count.rest.now) (cell_runs c.in-Some.following.now) c.in-Some.count
      c.in-Some.cell.now
      (string_bytes c.loop-count.text) _ (string_bytes c.push_run.new.text) c.in-Some.ensures.runs
      c.in_ok-push_run.ensures.is c.loop-count.invariant.is;
  fit = λ more.
      c.loop-count.invariant.fit
      (run_fits c.loop-count.rest.now c.in-Some.following.now c.in-Some.count c.in-Some.cell.now
      c.in-Some.ensures.runs c.push_run.ensures.fits more);
}

pub returns : goal.returns
returns c =
    let none =
    at_none c.first_run.result (cell_runs c.loop-count.rest.now ≡ [])
    (λ r. cell_runs c.loop-count.rest.now ≡ record { thing = r.1.now; times = r.0 } ∷ cell_runs r.2.now)
    c.in_default.is c.first_run.ensures.runs in
    record {
      is = runs_end (cell_runs c.loop-count.rest.now) (string_bytes c.loop-count.text) _ none
          c.loop-count.invariant.is;
      fit = c.loop-count.invariant.fit (no_runs_fit c.loop-count.rest.now none);
    }
