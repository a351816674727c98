use Rattle.stream_core.proofs.ShortSteps.{reference_found}
use Rattle.stream_core.proofs.streams.Stream.fetch_reference.Goals as goal

pub returns : goal.returns
returns c =
    reference_found c.args.program.now c.args.self.now c.in_ok-fetch_word.field-0 c.decode_reference.result
    c.in_ok-fetch_word.ensures c.decode_reference.ensures
