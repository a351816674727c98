use Rattle.tag_memory.proofs.unforwarded.unforwarded_memories_stay.Goals as goal
use Rattle.tag_memory.proofs.NoForwards.{stays_unforwarded, ends_at_once, leaves_out}

pub returns-clause-stays : goal.returns-clause-stays
returns-clause-stays c = stays_unforwarded

pub returns-clause-ends : goal.returns-clause-ends
returns-clause-ends c = ends_at_once

pub returns-clause-apart : goal.returns-clause-apart
returns-clause-apart c = leaves_out
