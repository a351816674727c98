use Rattle.std.proofs.Common.{ap, ◌∙◌, Some}
use Rattle.end_states.specs.EndStates.{trap_of_status}
use Rattle.end_states.proofs.Stops.{trap_seen}
use Rattle.end_states.proofs.states.trap_in.Goals as goal

pub returns-in-Some : goal.returns-in-Some
returns-in-Some g c =
    c.trap_of_status.ensures
    ∙ ap trap_of_status c.status.ensures
    ∙ trap_seen g.row.S c.args.machine.now c.args.stream (Some c.in-Some.found.now)
    c.image-image.ensures.kept c.in-Some.ensures
