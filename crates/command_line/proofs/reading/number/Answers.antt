use Rattle.std.proofs.Common.{◌∙◌}
use Rattle.std.specs.Str.Parse.{ParsesUnsigned, ExplainsUnsignedError, HasUnsignedDigitsIfOk}
use Rattle.clap.specs.Words.{found_of, one_text}
use Rattle.command_line.proofs.Matches.{number_is}
use Rattle.command_line.proofs.reading.number.Goals as goal

pub returns : goal.returns
returns c =
    c.unwrap_or.ensures
    ∙ number_is (λ bs r. ParsesUnsigned 64 10 bs r × ExplainsUnsignedError 10 bs r × HasUnsignedDigitsIfOk bs r)
    (λ text x parsed. parsed.0) (one_text (found_of c.args.matches.now) c.args.argument.now) c.get_one.result
    c.get_one.ensures.none c.get_one.ensures.value
