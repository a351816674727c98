use Rattle.std.proofs.Common.{◌≡◌, ℕ, sym, subst}
use Rattle.stream_core.specs.Arithmetic.{result_of}
use Rattle.touched_words.specs.TouchTables.{IsOneOf}
use Rattle.touched_words.proofs.known_after.results.Goals as goal

pub returns-then-is_one : goal.returns-then-is_one
returns-then-is_one c =
    λ m n first second.
    let same : n ≡ c.args.second.first = c.is_one.ensures c.if-is_one.true n second in
    subst (λ (k : ℕ). IsOneOf c.results_by.result (result_of c.args.op m k)) (sym same) (c.results_by.ensures m first)

pub returns-then-is_one-2 : goal.returns-then-is_one-2
returns-then-is_one-2 c =
    λ m n first second.
    let same : m ≡ c.args.first.first = c.is_one-2.ensures c.if-is_one-2.true m first in
    subst (λ (k : ℕ). IsOneOf c.results_from.result (result_of c.args.op k n)) (sym same) (c.results_from.ensures n second)
