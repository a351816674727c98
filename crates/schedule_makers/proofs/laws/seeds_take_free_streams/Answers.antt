use Rattle.schedule_makers.proofs.FreeTaken.{seeds-take-free}
use Rattle.schedule_makers.proofs.laws.seeds_take_free_streams.Goals as goal

pub returns : goal.returns
returns c = seeds-take-free
