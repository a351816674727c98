-- The numbers that the program exits with.
use Rattle.std.specs.Prelude.{ℕ}
use Rattle.mta_sim.specs.declared.status.ExitStatus.{ExitStatus}
use Rattle.mta_sim.specs.declared.status.ExitStatus.TheVariants.{Done, Fault, NoCommand}

abbrev pub exit_status_of : ExitStatus → ℕ
exit_status_of Done = 0
exit_status_of Fault = 1
exit_status_of NoCommand = 2
