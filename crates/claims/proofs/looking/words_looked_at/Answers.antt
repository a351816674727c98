use Rattle.std.proofs.Common.{◌<◌, arith}
use Rattle.claims.proofs.Words.{looks_there}
use Rattle.claims.proofs.looking.words_looked_at.Goals as goal

pub returns : goal.returns
returns c = λ a is.
    let got = looks_there c.args.claims.now a is in
    let below = got.below in
    c.loop-claim.invariant got.place got.claim (omega (arith, below, c.loop-claim-test.false, c.loop-claim.auto)) a got.looks
