use Rattle.tag_memory.proofs.adds.adds_commute_but_for_numbers.Goals as goal
use Rattle.tag_memory.proofs.TwoAdds.{adds_commute}

pub returns : goal.returns
returns c = adds_commute
