use Rattle.stream_core.proofs.ShortSteps.{short_found}
use Rattle.stream_core.proofs.streams.Stream.fetch_short.Goals as goal

pub returns : goal.returns
returns c =
    short_found c.args.program.now c.args.self.now c.in_ok-fetch_word.field-0 c.decode_short.result
    c.in_ok-fetch_word.ensures c.decode_short.ensures
