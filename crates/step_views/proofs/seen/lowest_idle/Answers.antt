use Rattle.std.proofs.Common.{◌∙◌, ap, sym, arith, slice_get}
use Rattle.image_file.specs.ImageValue.{ImageValue}
use Rattle.step_views.proofs.Seeing.{slim_of, first_idle, none_idle}
use Rattle.step_views.proofs.seen.lowest_idle.Goals as goal

pub returns-then-is_idle : goal.returns-then-is_idle
returns-then-is_idle g c =
    first_idle (slice_get c.args.machine.now.world.processors c.args.p) c.loop-s.s c.in_ok-stream.stream.now
    c.in_ok-stream.ensures (sym c.is_idle.ensures ∙ c.if-is_idle.true) c.loop-s.invariant

pub returns : goal.returns
returns g c =
    none_idle (slice_get c.args.machine.now.world.processors c.args.p) c.loop-s.s
    (λ proc there. omega (
      arith,
      slim_of g.row.S c.args.machine.now c.args.p proc c.image.ensures.kept there,
      ap (λ (i : ImageValue). i.slim) c.image.ensures.is,
    )) c.loop-s.invariant
