use Rattle.std.proofs.Common.{◌≡◌, ℕ, ◌+◌, ◌-◌, ◌≤◌, List, [], ◌∷◌, length, take, drop, filter, min, Some, sym, ap, ◌∙◌}
use Rattle.std.proofs.Common.{arith, length-take, lt-ltb, le-ltb}
use Rattle.std.proofs.lemmas.List.{drop-drop}
use Rattle.std.specs.List.{slice_split, slice_index_or}
use Rattle.std.specs.Option.{option_copied}
use Rattle.text_parts.specs.Pieces.{rest_length}
use Rattle.expectation_files.specs.Words.{is_blank, is_word, words_of, words_on, statement}
use Rattle.expectation_files.specs.WordSpans.{placed_from, words_among, placed_words, span_after, span_numbered, rest_between_blanks}
use Rattle.expectation_files.proofs.BlankCuts.{rest_drops, rest_counts}
use Rattle.expectation_files.proofs.Numbered.{at_first, after_first}
use Rattle.expectation_files.proofs.Spans.{no_word_here, no_word_counts, word_counts, word_before, in_statement}
use Rattle.expectation_files.proofs.word_spans.word_span.Goals as goal
use Rattle.expectation_files.proofs.word_spans.word_span.Goals.{then-width-gt0+else-left-eq0, else-width-gt0}

pub loop-rest-init : goal.loop-rest-init
unfolding words_of
loop-rest-init c =
    let e = c.statement_of.ensures in
    record {
      stands = ap (λ s. span_after 0 (words_among (placed_from 0 (slice_split is_blank s))) c.args.number) e;
      word = ap (λ s. slice_index_or (filter is_word (slice_split is_blank s)) c.args.number []) e;
      rest = λ r same. let is : c.statement_of.result.now ≡ r = cc in sym e ∙ is;
      within = let long = ap length e in omega (arith, long);
      end = omega arith;
    }

pub returns-then-left-eq0-clause-word : goal.returns-then-left-eq0-clause-word
returns-then-left-eq0-clause-word c =
    let b = c.loop-rest.before in
    let k = c.loop-rest.left in
    let p = c.cut_at_blank.result.0.now in
    let t = c.in-Some.text.now in
    let line = c.args.line.now in
    let ps = rest_between_blanks (option_copied c.cut_at_blank.result.1) in
    let all = filter is_word (slice_split is_blank t) in
    let column : b + 1 - 1 ≡ b = omega arith in
    let known : option_copied c.loop-rest.rest ≡ Some t = ap option_copied c.in-Some.is in
    let left : rest_length (option_copied c.loop-rest.rest) ≡ length t + 1 = ap rest_length known in
    let short : length p ≡ min (length p) (length t) =
    sym (ap length c.cut_at_blank.ensures.piece) ∙ length-take (length p) t in
    let bound = c.loop-rest.invariant.within in
    let within : b + length p ≤ length (statement line) = omega (arith, bound, left, short) in
    let first : all ≡ p ∷ filter is_word ps =
    ap (filter is_word) c.cut_at_blank.ensures.pieces ∙ word_counts k p ps (lt-ltb 0 (length p) c.if-width-gt0.true) in
    ap (λ n. take (length p) (drop n line)) column
    ∙ sym (in_statement (length p) b line within)
    ∙ ap (take (length p)) (c.loop-rest.invariant.rest t known)
    ∙ c.cut_at_blank.ensures.piece
    ∙ sym (at_first all (filter is_word ps) p k first c.if-left-eq0.true)
    ∙ ap (λ o. slice_index_or (filter is_word (rest_between_blanks o)) k []) (sym known)
    ∙ c.loop-rest.invariant.word

pub loop-rest-preserved : goal.loop-rest-preserved
loop-rest-preserved c =
    let b = c.loop-rest.before in
    let e = c.loop-rest.end in
    let k = c.loop-rest.left in
    let p = c.cut_at_blank.result.0.now in
    let t = c.in-Some.text.now in
    let s = statement c.args.line.now in
    let ps = rest_between_blanks (option_copied c.cut_at_blank.result.1) in
    let all = filter is_word (slice_split is_blank t) in
    let pieces = c.cut_at_blank.ensures.pieces in
    let known : option_copied c.loop-rest.rest ≡ Some t = ap option_copied c.in-Some.is in
    let left : rest_length (option_copied c.loop-rest.rest) ≡ length t + 1 = ap rest_length known in
    let counts = rest_counts c.cut_at_blank.result.1 p t c.cut_at_blank.ensures.rest in
    let bound = c.loop-rest.invariant.within in
    let end = c.loop-rest.invariant.end in
    let further : b + (length p + 1) ≡ b + length p + 1 = omega arith in
    let was : span_after e (words_among (placed_from b (p ∷ ps))) k ≡ span_numbered (placed_words c.args.line.now) c.args.number =
    ap (λ xs. span_after e (words_among (placed_from b xs)) k) (sym pieces)
    ∙ ap (λ o. span_after e (words_among (placed_from b (rest_between_blanks o))) k) (sym known)
    ∙ c.loop-rest.invariant.stands in
    let counted : slice_index_or all k [] ≡ slice_index_or (words_on c.args.line.now) c.args.number [] =
    ap (λ o. slice_index_or (filter is_word (rest_between_blanks o)) k []) (sym known) ∙ c.loop-rest.invariant.word in
    let drops : (r : List ℕ) → option_copied c.cut_at_blank.result.1 ≡ Some r → drop (b + (length p + 1)) s ≡ r =
    λ r there.
    sym (drop-drop (length p + 1) b s)
    ∙ ap (drop (length p + 1)) (c.loop-rest.invariant.rest t known)
    ∙ rest_drops c.cut_at_blank.result.1 p t c.cut_at_blank.ensures.rest r there in
    elim c.if-width-gt0.branch [
      | then-width-gt0+else-left-eq0 w ↦ record {
        stands =
            ap (λ n. span_after n (words_among (placed_from (b + (length p + 1)) ps)) c.if-width-gt0.left) w.end-is
            ∙ ap (λ n. span_after (b + length p) (words_among (placed_from (b + (length p + 1)) ps)) n) w.left-is
            ∙ ap (λ n. span_after (b + length p) (words_among (placed_from n ps)) (k - 1)) further
            ∙ word_before e b k p ps (lt-ltb 0 (length p) w.if-width-gt0.true) w.if-left-eq0.false
            ∙ was;
        word =
            ap (λ n. slice_index_or (filter is_word ps) n []) w.left-is
            ∙ after_first all (filter is_word ps) p k
            (ap (filter is_word) pieces ∙ word_counts k p ps (lt-ltb 0 (length p) w.if-width-gt0.true)) w.if-left-eq0.false
            ∙ counted;
        rest = drops;
        within = omega (arith, bound, left, counts);
        end = omega (arith, bound, left, counts, w.end-is);
      }
      | else-width-gt0 w ↦ record {
        stands =
            ap (λ n. span_after n (words_among (placed_from (b + (length p + 1)) ps)) c.if-width-gt0.left) w.end-is
            ∙ ap (λ n. span_after e (words_among (placed_from (b + (length p + 1)) ps)) n) w.left-is
            ∙ ap (λ n. span_after e (words_among (placed_from n ps)) k) further
            ∙ no_word_here e b k p ps (le-ltb 0 (length p) (omega (arith, w.if-width-gt0.false)))
            ∙ was;
        word =
            ap (λ n. slice_index_or (filter is_word ps) n []) w.left-is
            ∙ no_word_counts k p ps (le-ltb 0 (length p) (omega (arith, w.if-width-gt0.false)))
            ∙ ap (λ xs. slice_index_or (filter is_word xs) k []) (sym pieces)
            ∙ counted;
        rest = drops;
        within = omega (arith, bound, left, counts);
        end = omega (arith, end, w.end-is);
      }
    ]
