-- The words of the claims so far, and behind them those of the claims that are left.
use Rattle.std.proofs.Common.{◌≡◌, ◌++◌, drop, map}
use Rattle.case_cells.specs.SpokenWords.{spoken_in_claim}
use Rattle.case_cells.proofs.line_words.words_of_claims.Given as goal

abbrev pub invariant-loop-claim : goal.invariant-loop-claim
invariant-loop-claim l =
    l.words.items ++ map spoken_in_claim (drop l.claim-index l.claims) ≡ map spoken_in_claim l.claims
