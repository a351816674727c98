use Rattle.std.proofs.Common.{◌≡◌, true, false, sym, ap, ◌∙◌, option_copied, Some}
use Rattle.processor.specs.Records.{is_running}
use Rattle.local_steps.proofs.Shown.{unseen_idle}
use Rattle.first_sets.proofs.Resting as rest
use Rattle.first_sets.proofs.deciding.is_quiet_add.Goals as goal

pub returns-in_default : goal.returns-in_default
returns-in_default g c =
    λ s f.
    let m = c.args.machine.now in
    let never : true ≡ false =
    sym (rest.runs m.image m.world c.args.step s (Some c.args.request.now) f)
    ∙ rest.runs_there m.world c.args.step
    ∙ ap is_running
    (unseen_idle g.row.S m c.args.step.p c.args.step.s c.image-image.ensures.kept
    (sym c.stream.ensures ∙ ap option_copied c.in_default.is)) in
    cc
