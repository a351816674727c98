use Rattle.std.proofs.Common.{◌≡◌, ℕ, ◌<◌, ◌+◌, ◌*◌, ◌==◌, ◌&&◌, Bool, true, false, ap, sym, ◌∙◌, arith, rules, below_more}
use Rattle.std.specs.List.{list_all, range_with_len}
use Rattle.expectations.specs.WordRanges.{word_count}
use Rattle.case_cells.proofs.Ranges.{all_from, fails_from, and_fails}
use Rattle.case_cells.specs.SpokenWords.{is_same_word}
use Rattle.case_cells.proofs.line_words.are_same_words.Goals as goal

same_number : (m n : ℕ) → m ≡ n → (m == n) ≡ true
same_number m n e = rw e (search rules)

pub returns-then-not-is_same_word : goal.returns-then-not-is_same_word
returns-then-not-is_same_word c =
    let places = c.args.places.now in
    let given = c.args.given in
    let own = c.args.own in
    let test : ℕ → Bool = λ k. is_same_word places (given.first + 8 * k) (own.first + 8 * k) in
    let fails : test c.loop-number.number ≡ false = sym c.is_same_word.ensures ∙ c.if-not-is_same_word.true in
    let some : list_all test (range_with_len 0 (word_count given.first given.last)) ≡ false =
    ap (λ n. list_all test (range_with_len 0 n)) (sym c.word_count-count.ensures.is)
    ∙ fails_from test 0 c.word_count-count.result c.loop-number.number (omega arith) (omega arith) fails in
    sym (and_fails (word_count given.first given.last == word_count own.first own.last) _ some)

pub returns : goal.returns
returns c =
    let places = c.args.places.now in
    let given = c.args.given in
    let own = c.args.own in
    let test : ℕ → Bool = λ k. is_same_word places (given.first + 8 * k) (own.first + 8 * k) in
    let all : list_all test (range_with_len 0 (word_count given.first given.last)) ≡ true =
    ap (λ n. list_all test (range_with_len 0 n)) (sym c.word_count-count.ensures.is)
    ∙ all_from test 0 c.word_count-count.result (λ k low high. c.loop-number.invariant k (omega arith)) in
    let same : word_count given.first given.last ≡ word_count own.first own.last =
    sym c.word_count-count.ensures.is ∙ c.if-count-word_count.false ∙ c.word_count.ensures.is in
    sym (ap (λ b. b && list_all test (range_with_len 0 (word_count given.first given.last)))
    (same_number _ _ same) ∙ all)

pub loop-number-preserved : goal.loop-number-preserved
loop-number-preserved c =
    below_more _ _ c.loop-number.invariant (sym c.is_same_word.ensures ∙ c.if-not-is_same_word.false)
