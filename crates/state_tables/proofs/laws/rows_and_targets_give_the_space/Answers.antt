use Rattle.state_tables.proofs.Telling.{memory_told, processor_told, stream_told, world_told}
use Rattle.state_tables.proofs.Leading.{target_leads}
use Rattle.state_tables.proofs.laws.rows_and_targets_give_the_space.Goals as goal

pub returns-clause-memory : goal.returns-clause-memory
returns-clause-memory c = memory_told

pub returns-clause-processor : goal.returns-clause-processor
returns-clause-processor c = processor_told

pub returns-clause-stream : goal.returns-clause-stream
returns-clause-stream c = stream_told

pub returns-clause-same : goal.returns-clause-same
returns-clause-same c = world_told

pub returns-clause-leads : goal.returns-clause-leads
returns-clause-leads c = target_leads
