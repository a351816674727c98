use Rattle.std.proofs.Common.{sym, subst, arith}
use Rattle.machine.specs.MachineValue.{MachineValue}
use Rattle.schedule_space.specs.Spaces.{schedule_of}
use Rattle.schedule_space.proofs.Memories.{memory_of_run}
use Rattle.world_keys.specs.WorldKeys.{IsMemoryOf}
use Rattle.state_tables.proofs.RowsSoFar.{row_from}
use Rattle.state_tables.proofs.rows.row_at.Goals as goal

pub world_key-requires : goal.world_key-requires
world_key-requires g c = (
  omega arith,
  subst (λ (m : MachineValue). IsMemoryOf m.image m.world.memory) (sym c.in_ok-machine.ensures)
      (memory_of_run c.args.space.now.image (schedule_of c.args.space.now c.args.place)),
)

pub returns-clause-row : goal.returns-clause-row
returns-clause-row g c =
    row_from c.args.space.now c.args.place c.in_ok-machine.machine c.live.result.now c.world_key.new.contents
    c.in_ok-row.row.items c.in_ok-machine.ensures c.live.ensures.is c.in_ok-row.ensures.is c.in_ok-row.ensures.known
