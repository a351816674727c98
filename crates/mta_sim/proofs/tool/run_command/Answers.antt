use Rattle.std.proofs.Common.{ap}
use Rattle.command_line.specs.CommandLine.{value_of_command}
use Rattle.mta_sim.proofs.tool.run_command.Goals as goal

pub returns-in_ok-schedule-in-Debug-clause-output_as_before : goal.returns-in_ok-schedule-in-Debug-clause-output_as_before
returns-in_ok-schedule-in-Debug-clause-output_as_before g c = λ others.
    absurd (others c.in-Debug.image.now c.in-Debug.schedule.now (ap value_of_command c.in-Debug.is))
