use Rattle.std.proofs.Common.{◌≡◌, ℕ, ◌+◌, ◌%◌, ◌^◌, true, false, ap, sym, ◌∙◌, arith, below_more}
use Rattle.std.proofs.Math.Nat.{mod-add-mod}
use Rattle.std.specs.Prelude.{◌==◌, ◌&&◌}
use Rattle.expectations.specs.WordRanges.{is_there, value_in, word_behind, are_there, sum_of_words, is_sum}
use Rattle.expectations.proofs.Ranges.{all_from, fails_from, sum_more}
use Rattle.expectations.proofs.word_ranges.is_sum.Goals as goal

pub returns-in-None : goal.returns-in-None
returns-in-None g c =
    let m = c.args.machine.now.world.memory in
    let first = c.args.first in
    let count = c.word_count-count.result in
    let fails : is_there (word_behind m first c.loop-number.number) ≡ false =
    ap is_there (sym c.in-None.ensures) in
    let none : are_there m first count ≡ false =
    fails_from (λ k. is_there (word_behind m first k)) 0 count c.loop-number.number (omega arith) (omega arith) fails in
    sym (ap (is_sum c.args.value m first) (sym c.word_count-count.ensures.is)
    ∙ ap (λ b. b && sum_of_words m first count % 2 ^ 64 == c.args.value) none)

pub returns : goal.returns
returns g c =
    let m = c.args.machine.now.world.memory in
    let first = c.args.first in
    let count = c.word_count-count.result in
    let all : are_there m first count ≡ true =
    all_from (λ k. is_there (word_behind m first k)) 0 count
    (λ k low high. c.loop-number.invariant.there k (omega arith)) in
    let end : c.loop-number.number ≡ count = omega arith in
    sym (ap (is_sum c.args.value m first) (sym c.word_count-count.ensures.is)
    ∙ ap (λ b. b && sum_of_words m first count % 2 ^ 64 == c.args.value) all
    ∙ ap (λ n. sum_of_words m first n % 2 ^ 64 == c.args.value) (sym end)
    ∙ ap (λ s. s == c.args.value) (sym c.loop-number.invariant.sum))

pub loop-number-preserved : goal.loop-number-preserved
loop-number-preserved g c =
    let m = c.args.machine.now.world.memory in
    let first = c.args.first in
    let number = c.loop-number.number in
    let value_at : ℕ → ℕ = λ k. value_in (word_behind m first k) in
    let here : c.value-sum.result ≡ value_at number =
    c.value-sum.ensures ∙ ap value_in c.in-Some.ensures in
    record {
      there = below_more _ _ c.loop-number.invariant.there (ap is_there (sym c.in-Some.ensures));
      sum =
          ap (λ s. (s + c.value-sum.result) % 2 ^ 64) c.loop-number.invariant.sum
          ∙ mod-add-mod (sum_of_words m first number) (2 ^ 64) c.value-sum.result
          ∙ ap (λ v. (sum_of_words m first number + v) % 2 ^ 64) here
          ∙ ap (λ s. s % 2 ^ 64) (sym (sum_more value_at number));
    }
