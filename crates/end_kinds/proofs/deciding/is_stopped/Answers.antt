use Rattle.std.proofs.Common.{ap, ◌∙◌, Some}
use Rattle.end_kinds.specs.Ends.{is_stopped_status}
use Rattle.end_kinds.proofs.Stopped.{stopped_seen}
use Rattle.end_kinds.proofs.deciding.is_stopped.Goals as goal

pub returns-in-Some : goal.returns-in-Some
returns-in-Some g c =
    c.is_stopped_status.ensures
    ∙ ap is_stopped_status c.status.ensures
    ∙ stopped_seen g.row.S c.args.machine.now (record { p = c.args.p; s = c.args.s }) (Some c.in-Some.stream.now)
    c.image-image.ensures.kept c.in-Some.ensures
