use Rattle.std.proofs.Common.{ap, arith, refl}
use Rattle.image_file.specs.ImageValue.{ImageValue}
use Rattle.local_steps.proofs.Shown.{others_settled}
use Rattle.local_steps.proofs.deciding.others_are_settled.Goals as goal

pub returns : goal.returns
returns g c = (
  λ told. others_settled g.row.S c.args.places.now c.args.machine.now c.args.step c.loop-other.other c.image.ensures.kept
      (omega (arith, c.loop-other-test.false, c.slim-other-end.ensures.is, ap (λ (i : ImageValue). i.slim) c.image.ensures.is))
      c.loop-other.invariant,
  λ all. refl,
)
