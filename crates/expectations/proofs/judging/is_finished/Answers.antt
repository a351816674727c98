use Rattle.std.proofs.Common.{◌<◌, length, sym, ap, ◌∙◌, arith}
use Rattle.image_file.specs.ImageValue.{ImageValue}
use Rattle.expectations.proofs.Resting.{rest_more, rest_fails}
use Rattle.expectations.proofs.judging.is_finished.Goals as goal

pub returns-then-not-is_at_rest : goal.returns-then-not-is_at_rest
returns-then-not-is_at_rest g c =
    let ds = c.args.machine.now.world.processors in
    let within : c.loop-p.p < length ds =
    omega (arith, c.image.ensures.kept.one_each, ap (λ (i : ImageValue). length i.entries) c.image.ensures.is) in
    sym (rest_fails ds c.loop-p.p within (sym c.is_at_rest.ensures ∙ c.if-not-is_at_rest.true)) ∙ c.loop-p.invariant

pub loop-p-preserved : goal.loop-p-preserved
loop-p-preserved g c =
    let ds = c.args.machine.now.world.processors in
    let within : c.loop-p.p < length ds =
    omega (arith, c.image.ensures.kept.one_each, ap (λ (i : ImageValue). length i.entries) c.image.ensures.is) in
    rest_more ds c.loop-p.p within (sym c.is_at_rest.ensures ∙ c.if-not-is_at_rest.false) ∙ c.loop-p.invariant
