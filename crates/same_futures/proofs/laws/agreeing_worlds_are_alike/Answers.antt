use Rattle.std.specs.Prelude.{IsTrue}
use Rattle.same_futures.proofs.laws.agreeing_worlds_are_alike.Goals as goal
use Rattle.same_futures.proofs.Chains.{agree_itself, agree_back, agree_next}
use Rattle.same_futures.proofs.Alike.{agreeing_alike}

pub returns-clause-itself : goal.returns-clause-itself
returns-clause-itself c named live asked = agree_itself (λ r. IsTrue (named r)) (λ k r. IsTrue (live k r)) (λ k d. IsTrue (asked k d))

pub returns-clause-back : goal.returns-clause-back
returns-clause-back c named live asked = agree_back (λ r. IsTrue (named r)) (λ k r. IsTrue (live k r)) (λ k d. IsTrue (asked k d))

pub returns-clause-next : goal.returns-clause-next
returns-clause-next c named live asked = agree_next (λ r. IsTrue (named r)) (λ k r. IsTrue (live k r)) (λ k d. IsTrue (asked k d))

pub returns-clause-alike : goal.returns-clause-alike
returns-clause-alike c named live asked = agreeing_alike (λ r. IsTrue (named r)) (λ k r. IsTrue (live k r)) (λ k d. IsTrue (asked k d))
