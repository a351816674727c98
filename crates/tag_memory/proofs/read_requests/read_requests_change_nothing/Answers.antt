use Rattle.tag_memory.proofs.read_requests.read_requests_change_nothing.Goals as goal
use Rattle.tag_memory.proofs.Unchanged.{unchanged}

pub returns : goal.returns
returns c = unchanged
