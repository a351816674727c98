use Rattle.std.proofs.Common.{ℕ, ◌<◌, get_or}
use Rattle.std.specs.Prelude.{IsTrue}
use Rattle.std.specs.List.{Contains}
use Rattle.claims.specs.Looking.{form_looks_at_word}
use Rattle.claims.specs.declared.claim.Claim.{Claim}
use Rattle.claims.proofs.looking.words_looked_at.Given as goal

-- the words of the claims so far are there
abbrev pub invariant-loop-claim : goal.invariant-loop-claim
invariant-loop-claim l =
    (k : ℕ) (d : Claim) → k < l.claim-index → (a : ℕ) → IsTrue (form_looks_at_word a (get_or l.claims k d).form)
    → Contains l.words.items a
