use Rattle.std.proofs.Common.{◌≡◌, ℕ, ◌<◌, Bool, true, false, ap, sym, ◌∙◌, arith, below_more}
use Rattle.std.specs.List.{list_all, range_with_len}
use Rattle.expectations.specs.MemoryWords.{is_word}
use Rattle.expectations.specs.WordRanges.{word_behind}
use Rattle.expectations.proofs.Ranges.{all_from, fails_from}
use Rattle.expectations.proofs.word_ranges.are_words.Goals as goal

pub returns-then-not-is_word : goal.returns-then-not-is_word
returns-then-not-is_word g c =
    let test : ℕ → Bool = λ k.
    is_word c.args.value c.args.state (word_behind c.args.machine.now.world.memory c.args.first k) in
    let fails : test c.loop-number.number ≡ false =
    ap (is_word c.args.value c.args.state) (sym c.word.ensures) ∙ sym c.is_word.ensures ∙ c.if-not-is_word.true in
    sym (ap (λ n. list_all test (range_with_len 0 n)) (sym c.word_count-count.ensures.is)
    ∙ fails_from test 0 c.word_count-count.result c.loop-number.number (omega arith) (omega arith) fails)

pub returns : goal.returns
returns g c =
    let test : ℕ → Bool = λ k.
    is_word c.args.value c.args.state (word_behind c.args.machine.now.world.memory c.args.first k) in
    sym (ap (λ n. list_all test (range_with_len 0 n)) (sym c.word_count-count.ensures.is)
    ∙ all_from test 0 c.word_count-count.result (λ k low high. c.loop-number.invariant k (omega arith)))

pub loop-number-preserved : goal.loop-number-preserved
loop-number-preserved g c =
    below_more _ _ c.loop-number.invariant
    (ap (is_word c.args.value c.args.state) (sym c.word.ensures) ∙ sym c.is_word.ensures ∙ c.if-not-is_word.false)
