use Rattle.std.proofs.Common.{◌≡◌, ℕ, arith, subst, vec_len}
use Rattle.processor.specs.World.{run}
use Rattle.step_views.specs.Changes.{AreChanges}
use Rattle.whole_runs.specs.FirstDifferences.{world_at}
use Rattle.run_rounds.proofs.Runs.{more_than_none}
use Rattle.run_rounds.proofs.run_ends.last_steps.Goals as goal

pub returns-then-not-is_empty : goal.returns-then-not-is_empty
returns-then-not-is_empty g c =
    let image = c.args.image.now in
    let ts = c.args.schedule.now in
    let found = c.in_ok-found.found.items in (
      λ k is.
          let here : c.saturating_sub-begin.result ≡ k = omega (arith, is, c.saturating_sub-begin.ensures) in
          subst (λ (b : ℕ). AreChanges (world_at image ts b) (run image ts) found) here c.in_ok-found.ensures,
      more_than_none (vec_len c.in_ok-found.found) c.if-not-is_empty.ensures,
    )
