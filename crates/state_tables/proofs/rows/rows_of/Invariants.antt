-- the rows so far, of worlds that are cleared
use Rattle.dead_registers.specs.Clearing.{cleared}
use Rattle.schedule_space.specs.Spaces.{world_of}
use Rattle.state_tables.specs.Rows.{AreRows}
use Rattle.state_tables.proofs.rows.rows_of.Given as goal

abbrev pub invariant-loop-place : goal.invariant-loop-place
invariant-loop-place g l =
    AreRows l.space.image l.table (λ k. cleared l.space.live (world_of l.space k)) l.place l.rows.items
