use Rattle.std.proofs.Common.{false, refl, rules, ◌≡◌}
use Rattle.waiting.specs.Running.{runs_in}
use Rattle.waiting.proofs.Looking.{below_next, none_runs, none_run}
use Rattle.waiting.proofs.stuck.some_run.Goals as goal

pub returns-then-runs : goal.returns-then-runs
returns-then-runs g c = (λ yes. (record { p = c.loop-p.p; s = c.loop-s.s }, search rules), λ some. refl)

pub loop-p-preserved : goal.loop-p-preserved
loop-p-preserved g c =
    below_next (λ t. runs_in c.args.machine.now.world t ≡ false) c.loop-p.p c.loop-p.invariant
    (none_runs g.row.S c.args.machine.now c.loop-p.p c.loop-s.s c.image-image.ensures.kept (search rules)
    c.loop-s.invariant)

pub returns : goal.returns
returns g c = (
  λ no. cc,
  λ some.
      absurd (none_run g.row.S c.args.machine.now c.loop-p.p c.image-image.ensures.kept (search rules)
      c.loop-p.invariant some),
)
