use Rattle.std.proofs.Common.{sym, ap, ◌∙◌}
use Rattle.std.specs.Option.{option_copied}
use Rattle.local_steps.proofs.deciding.is_local_step.Goals as goal
use Rattle.local_steps.proofs.Told.{none_shown}

-- src/deciding.rt:16:9
pub returns-in_default : goal.returns-in_default
returns-in_default g c =
    let none = sym c.stream.ensures ∙ ap option_copied c.in_default.is in
    ((λ e. cc), λ l. absurd (none_shown g.row.S c.args.machine.now c.args.step c.image-image.ensures.kept none l))
