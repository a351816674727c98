use Rattle.std.proofs.Common.{inl, sym, ap, ◌∙◌, option_copied}
use Rattle.processor.specs.Records.{is_running}
use Rattle.local_steps.proofs.Shown.{unseen_idle}
use Rattle.first_sets.proofs.deciding.keeps_off.Goals as goal

pub returns-in_default : goal.returns-in_default
returns-in_default g c =
    λ yes.
    inl
    (ap is_running (unseen_idle g.row.S c.args.machine.now c.args.step.p c.args.step.s c.image-image.ensures.kept
    (sym c.stream.ensures ∙ ap option_copied c.in_default.is)))
