use Rattle.std.proofs.Common.{◌≡◌, ◌+◌, ◌∷◌, cond, ◌∙◌, ap, arith}
use Rattle.std.specs.Option.{option_copied}
use Rattle.asm_line.specs.Lines.{rest_lines}
use Rattle.text_parts.specs.Pieces.{rest_length}
use Rattle.asm_line.specs.SourceLines.{line_seen}
use Rattle.asm_text.proofs.Standing.{labels_taken, labels_end, profile_taken, profile_end, words_taken, one_word}
use Rattle.asm_text.proofs.Standing.{few_more, then_one, else_none}
use Rattle.asm_text.proofs.source.outline_of.Goals as goal
use Rattle.asm_text.proofs.source.outline_of.Goals.{then-is_word, else-is_word}

pub loop-rest-preserved : goal.loop-rest-preserved
loop-rest-preserved c =
    let l = line_seen c.next_source_line.result.0 in
    let ls = rest_lines (option_copied c.next_source_line.result.1) in
    let these = rest_lines (option_copied c.loop-rest.rest) in
    let first : these ≡ l ∷ ls =
    ap (λ r. rest_lines (option_copied r)) c.in-Some.is ∙ c.next_source_line.ensures.lines in
    let more : c.if-is_word.words ≡ c.loop-rest.words + cond c.is_word.result 1 0 =
    elim c.if-is_word.branch [
      | then-is_word w ↦ then_one c.is_word.result c.loop-rest.words c.if-is_word.words w.if-is_word.true w.words-is
      | else-is_word w ↦ else_none c.is_word.result c.loop-rest.words c.if-is_word.words w.if-is_word.false w.words-is
    ] in
    let count = one_word l c.loop-rest.words c.if-is_word.words c.is_word.result c.is_word.ensures more in
    record {
      profile = profile_taken l ls these _ _ _ first c.profile_after-profile.ensures c.loop-rest.invariant.profile;
      labels = λ name. labels_taken name l ls these _ _ _ _ _ _ first count (c.in_ok-note.ensures.takes name)
          (c.loop-rest.invariant.labels name);
      words = words_taken l ls these _ _ _ first count c.loop-rest.invariant.words;
      number = omega (
        arith,
        ap (λ r. rest_length (option_copied r)) c.in-Some.is,
        c.next_source_line.ensures.shorter,
        c.loop-rest.invariant.number,
      );
      few_words = omega (arith, more, few_more c.is_word.result);
    }

pub returns-clause-labels : goal.returns-clause-labels
returns-clause-labels c = λ i name. labels_end name (rest_lines (option_copied c.loop-rest.rest)) _ _ _ _
    (ap (λ r. rest_lines (option_copied r)) c.in_default.is) (c.loop-rest.invariant.labels name) i

pub returns-clause-profile : goal.returns-clause-profile
returns-clause-profile c =
    c.unwrap_or.ensures ∙ profile_end (rest_lines (option_copied c.loop-rest.rest)) _ c.loop-rest.profile
    (ap (λ r. rest_lines (option_copied r)) c.in_default.is) c.loop-rest.invariant.profile
