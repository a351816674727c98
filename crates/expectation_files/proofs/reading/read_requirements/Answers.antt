use Rattle.std.proofs.Common.{◌≡◌, false, ◌+◌, ◌∙◌, sym, ap, Ok, arith}
use Rattle.std.specs.Option.{option_copied}
use Rattle.text_parts.specs.Pieces.{pieces, rest_pieces, rest_length}
use Rattle.expectation_files.specs.Files.{lines_said, in_front, nothing_said}
use Rattle.expectation_files.specs.Seen.{names_in, requirements_seen, meaning_seen}
use Rattle.expectation_files.proofs.TextRead.{at_unread, line_more, nothing_found, all_found}
use Rattle.expectation_files.proofs.reading.read_requirements.Goals as goal

pub returns-in-Err-clause-fault : goal.returns-in-Err-clause-fault
returns-in-Err-clause-fault c = λ some.
    let ns = names_in c.args.names in
    let v = requirements_seen c.loop-rest.found in
    let n = c.loop-rest.number + 1 in
    let found : in_front v (lines_said ns c.args.image.now c.loop-rest.has_points n (pieces 10 c.in-Some.bytes.now))
    ≡ lines_said ns c.args.image.now false 1 (pieces 10 c.args.text.now) =
    ap (λ r. in_front v (lines_said ns c.args.image.now c.loop-rest.has_points n (rest_pieces 10 (option_copied r)))) (sym c.in-Some.is)
    ∙ c.loop-rest.invariant.found in
    at_unread ns c.args.image.now c.loop-rest.has_points v c.args.text.now c.in-Some.bytes.now c.cut.result.0.now
    (rest_pieces 10 (option_copied c.cut.result.1)) n c.in-Err.unread c.on_line.result found c.cut.ensures.pieces
    c.in-Err.ensures.fault c.on_line.ensures.fault c.on_line.ensures.no_memory some

pub loop-rest-preserved : goal.loop-rest-preserved
loop-rest-preserved c =
    let ns = names_in c.args.names in
    let v = requirements_seen c.loop-rest.found in
    let n = c.loop-rest.number + 1 in
    let found : in_front v (lines_said ns c.args.image.now c.loop-rest.has_points n (pieces 10 c.in-Some.bytes.now))
    ≡ lines_said ns c.args.image.now false 1 (pieces 10 c.args.text.now) =
    ap (λ r. in_front v (lines_said ns c.args.image.now c.loop-rest.has_points n (rest_pieces 10 (option_copied r)))) (sym c.in-Some.is)
    ∙ c.loop-rest.invariant.found in
    let left = ap (λ r. rest_length (option_copied r)) (sym c.in-Some.is) in
    let bound = c.loop-rest.invariant.number in
    let shorter = c.cut.ensures.shorter in
    record {
      found =
          ap (λ h. in_front (requirements_seen c.add.new.self)
          (lines_said ns c.args.image.now h (n + 1) (rest_pieces 10 (option_copied c.cut.result.1))))
          c.has_points_after-has_points.ensures
          ∙ line_more ns c.args.image.now c.loop-rest.has_points v (requirements_seen c.add.new.self) c.args.text.now c.in-Some.bytes.now
          c.cut.result.0.now (rest_pieces 10 (option_copied c.cut.result.1)) n (meaning_seen c.in-Ok.meaning) found
          c.cut.ensures.pieces c.in-Ok.ensures.means c.in_ok-add-in-Ok.ensures;
      number = omega (arith, bound, shorter, left);
    }

pub returns-then-is_nothing-clause-fault : goal.returns-then-is_nothing-clause-fault
returns-then-is_nothing-clause-fault c = λ _.
    let ns = names_in c.args.names in
    let v = requirements_seen c.loop-rest.found in
    let found : in_front v (Ok nothing_said) ≡ lines_said ns c.args.image.now false 1 (pieces 10 c.args.text.now) =
    ap (λ r. in_front v (lines_said ns c.args.image.now c.loop-rest.has_points (c.loop-rest.number + 1) (rest_pieces 10 (option_copied r))))
    (sym c.in_default.is)
    ∙ c.loop-rest.invariant.found in
    nothing_found ns c.args.image.now c.loop-rest.has_points v c.args.text.now found (sym c.is_nothing.ensures ∙ c.if-is_nothing.true)

pub returns-clause-means : goal.returns-clause-means
returns-clause-means c =
    let ns = names_in c.args.names in
    let v = requirements_seen c.loop-rest.found in
    let found : in_front v (Ok nothing_said) ≡ lines_said ns c.args.image.now false 1 (pieces 10 c.args.text.now) =
    ap (λ r. in_front v (lines_said ns c.args.image.now c.loop-rest.has_points (c.loop-rest.number + 1) (rest_pieces 10 (option_copied r))))
    (sym c.in_default.is)
    ∙ c.loop-rest.invariant.found in
    all_found ns c.args.image.now c.loop-rest.has_points v c.args.text.now found (sym c.is_nothing.ensures ∙ c.if-is_nothing.false)
