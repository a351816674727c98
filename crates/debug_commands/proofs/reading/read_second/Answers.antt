use Rattle.std.proofs.Common.{◌∷◌, sym, ◌∙◌, ap}
use Rattle.std.specs.Option.{option_copied}
use Rattle.text_parts.specs.Pieces.{rest_pieces}
use Rattle.text_parts.proofs.Pieces.{pieces_cut}
use Rattle.debug_commands.specs.Commands.{command_of_words}
use Rattle.debug_commands.proofs.reading.read_second.Goals as goal

-- a fourth word stands there
pub returns-in-Some : goal.returns-in-Some
returns-in-Some c =
    let four = c.cut.ensures.pieces
    ∙ ap (λ r. c.cut.result.0.now ∷ rest_pieces 32 (option_copied r)) c.in-Some.is
    ∙ ap (λ ps. c.cut.result.0.now ∷ ps) (pieces_cut 32 c.in-Some.field-0.now) in
    sym (ap (λ ps. command_of_words (c.args.name.now ∷ c.args.first.now ∷ ps)) four)
