use Rattle.std.proofs.Common.{◌∷◌, sym, ◌∙◌, ap}
use Rattle.std.specs.Option.{option_map, option_copied}
use Rattle.text_parts.specs.Pieces.{rest_pieces}
use Rattle.trace_text.specs.LineNumbers.{numbers_from}
use Rattle.trace_text.proofs.Values.{values_of-one, no_processor, no_stream, no_times, all_numbers}
use Rattle.trace_text.proofs.line_numbers.LineNumbers.read.Goals as goal

pub returns-in_err-rest : goal.returns-in_err-rest
returns-in_err-rest c =
    let alone = c.cut.ensures.pieces ∙ ap (λ r. c.cut.result.0.now ∷ rest_pieces 32 (option_copied r))
    c.in_err-rest.was in
    c.from_residual.ensures ∙ sym (ap (option_map numbers_from)
    (values_of-one c.args.line.now c.cut.result.0.now alone))

pub returns-in_err-processor : goal.returns-in_err-processor
returns-in_err-processor c =
    let behind = c.cut.ensures.pieces ∙ ap (λ r. c.cut.result.0.now ∷ rest_pieces 32 (option_copied r))
    c.in_ok-rest.was in
    c.from_residual-in_err-processor.ensures ∙ sym (no_processor c.args.line.now c.in_ok-rest.field-0.now
    c.cut.result.0.now c.cut-2.result.0.now
    (option_copied c.cut-2.result.1) behind c.cut-2.ensures.pieces (sym c.read_digits.ensures
    ∙ c.in_err-processor.was))

pub returns-in_err-stream : goal.returns-in_err-stream
returns-in_err-stream c =
    let behind = c.cut.ensures.pieces ∙ ap (λ r. c.cut.result.0.now ∷ rest_pieces 32 (option_copied r))
    c.in_ok-rest.was in
    c.from_residual-in_err-stream.ensures ∙ sym (no_stream c.args.line.now c.in_ok-rest.field-0.now
    c.cut.result.0.now c.cut-2.result.0.now
    (option_copied c.cut-2.result.1) behind c.cut-2.ensures.pieces (sym c.read_digits-2.ensures
    ∙ c.in_err-stream.was))

pub returns-in_err-times : goal.returns-in_err-times
returns-in_err-times c =
    let behind = c.cut.ensures.pieces ∙ ap (λ r. c.cut.result.0.now ∷ rest_pieces 32 (option_copied r))
    c.in_ok-rest.was in
    c.from_residual-in_err-times.ensures ∙ sym (no_times c.args.line.now c.in_ok-rest.field-0.now
    c.cut.result.0.now c.cut-2.result.0.now
    (option_copied c.cut-2.result.1) behind c.cut-2.ensures.pieces (sym c.read_times.ensures
    ∙ c.in_err-times.was))

pub returns : goal.returns
returns c =
    let behind = c.cut.ensures.pieces ∙ ap (λ r. c.cut.result.0.now ∷ rest_pieces 32 (option_copied r))
    c.in_ok-rest.was in
    sym (all_numbers c.args.line.now c.in_ok-rest.field-0.now c.cut.result.0.now c.cut-2.result.0.now
    (option_copied c.cut-2.result.1) behind c.cut-2.ensures.pieces _ _ _ (sym c.read_digits.ensures
    ∙ c.in_ok-processor.was)
    (sym c.read_digits-2.ensures ∙ c.in_ok-stream.was) (sym c.read_times.ensures ∙ c.in_ok-times.was))
