use Rattle.std.proofs.Common.{◌≡◌, filter, take}
use Rattle.expectation_files.specs.Faults.{is_of_form}
use Rattle.expectation_files.proofs.all_faults.of_form.Given as goal

abbrev pub invariant-loop-fault : goal.invariant-loop-fault
invariant-loop-fault l = l.kept.items ≡ filter is_of_form (take l.fault-index l.faults)
