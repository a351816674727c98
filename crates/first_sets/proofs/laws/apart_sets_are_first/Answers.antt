use Rattle.std.specs.Prelude.{IsTrue}
use Rattle.first_sets.proofs.Apart.{first_apart}
use Rattle.first_sets.proofs.laws.apart_sets_are_first.Goals as goal

pub returns : goal.returns
returns c handled named live asked image tables w set =
    first_apart (IsTrue handled) (λ r. IsTrue (named r)) (λ k r. IsTrue (live k r)) (λ k d. IsTrue (asked k d)) image tables w
    set
