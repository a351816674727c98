use Rattle.std.proofs.Common.{ap, ◌∙◌, Some}
use Rattle.machine.specs.Processor.Records.{is_running_status}
use Rattle.waiting.proofs.Standing.{runs_seen}
use Rattle.waiting.proofs.running.runs.Goals as goal

pub returns-in-Some : goal.returns-in-Some
returns-in-Some g c =
    c.is_running.ensures
    ∙ ap is_running_status c.status.ensures
    ∙ runs_seen g.row.S c.args.machine.now (record { p = c.args.p; s = c.args.s }) (Some c.in-Some.stream.now)
    c.image-image.ensures.kept c.in-Some.ensures
