use Rattle.std.specs.Prelude.{IsTrue}
use Rattle.first_sets.proofs.unread_loads.unread_loads_agree.Goals as goal
use Rattle.first_sets.proofs.Orders.{both_orders}

pub returns : goal.returns
returns c image named live asked =
    both_orders image (λ n. IsTrue (named n)) (λ k n. IsTrue (live k n)) (λ k c. IsTrue (asked k c))
