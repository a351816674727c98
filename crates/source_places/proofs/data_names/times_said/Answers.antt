use Rattle.std.proofs.Common.{rules}
use Rattle.source_places.specs.TimesSaid.{times_in}
use Rattle.source_places.proofs.data_names.times_said.Goals as goal

pub loop-name-init : goal.loop-name-init
unfolding times_in
loop-name-init c = λ q. search rules
