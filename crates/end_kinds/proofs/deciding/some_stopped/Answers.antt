use Rattle.std.proofs.Common.{false, refl, rules, ◌≡◌}
use Rattle.waiting.proofs.Looking.{below_next}
use Rattle.end_kinds.specs.Ends.{stopped_in}
use Rattle.end_kinds.proofs.Stopped.{none_stopped, none_is_stopped}
use Rattle.end_kinds.proofs.deciding.some_stopped.Goals as goal

pub returns-then-is_stopped : goal.returns-then-is_stopped
returns-then-is_stopped g c = (λ yes. (record { p = c.loop-p.p; s = c.loop-s.s }, search rules), λ some. refl)

pub loop-p-preserved : goal.loop-p-preserved
loop-p-preserved g c =
    below_next (λ t. stopped_in c.args.machine.now.world t ≡ false) c.loop-p.p c.loop-p.invariant
    (none_stopped g.row.S c.args.machine.now c.loop-p.p c.loop-s.s c.image-image.ensures.kept (search rules)
    c.loop-s.invariant)

pub returns : goal.returns
returns g c = (
  λ no. cc,
  λ some.
      absurd (none_is_stopped g.row.S c.args.machine.now c.loop-p.p c.image-image.ensures.kept (search rules)
      c.loop-p.invariant some),
)
