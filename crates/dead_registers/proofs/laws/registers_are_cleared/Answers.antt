use Rattle.dead_registers.proofs.laws.registers_are_cleared.Goals as goal
use Rattle.dead_registers.proofs.Registers.{all_kept, is_kept, is_zero, codes_kept, idle_same}
use Rattle.dead_registers.proofs.Worlds.{cleared_twice, stream_in_cleared}

pub returns-clause-sizes : goal.returns-clause-sizes
returns-clause-sizes c = all_kept

pub returns-clause-kept : goal.returns-clause-kept
returns-clause-kept c = is_kept

pub returns-clause-zero : goal.returns-clause-zero
returns-clause-zero c = is_zero

pub returns-clause-codes : goal.returns-clause-codes
returns-clause-codes c = codes_kept

pub returns-clause-idle : goal.returns-clause-idle
returns-clause-idle c = idle_same

pub returns-clause-each : goal.returns-clause-each
returns-clause-each c = stream_in_cleared

pub returns-clause-twice : goal.returns-clause-twice
returns-clause-twice c = cleared_twice
