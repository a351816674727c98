use Rattle.std.specs.Prelude.{IsTrue}
use Rattle.same_futures.proofs.laws.agreeing_worlds_end_alike.Goals as goal
use Rattle.same_futures.proofs.Alike.{agreeing_end_alike}

pub returns : goal.returns
returns c image handled named live asked closed =
    agreeing_end_alike image (IsTrue handled) (λ r. IsTrue (named r)) (λ k r. IsTrue (live k r)) (λ k d. IsTrue (asked k d)) closed
