use Rattle.std.proofs.Common.{◌++◌, arith, string_bytes}
use Rattle.std.specs.Option.{option_copied}
use Rattle.trace_text.specs.WorldTexts.{stream_parts}
use Rattle.trace_text.specs.WorldParts.{streams_of}
use Rattle.trace_text.proofs.WorldSteps.{stream_written, streams_end}
use Rattle.trace_text.proofs.world_texts.push_streams.Goals as goal

pub loop-s-preserved : goal.loop-s-preserved
loop-s-preserved g c =
    let world = g.T.WorldReaders.world c.args.readers.now in
    stream_written g.T.WorldReaders.room world c.args.p c.loop-s.s (option_copied c.stream.result) (string_bytes c.loop-s.text)
    (string_bytes c.push_stream.new.text) (string_bytes c.args.text.now
    ++ stream_parts c.args.p 0 (streams_of world c.args.p))
    (omega (arith, c.slim-slim.ensures.is, c.requires.within, c.loop-s-test.true)) c.stream.ensures
    c.in_ok-push_stream.ensures c.loop-s.invariant

pub returns : goal.returns
returns g c =
    let world = g.T.WorldReaders.world c.args.readers.now in
    streams_end g.T.WorldReaders.room (record { image = c.args.image.now; world = world }) c.args.p c.loop-s.s (string_bytes c.loop-s.text)
    (string_bytes c.args.text.now ++ stream_parts c.args.p 0 (streams_of world c.args.p))
    c.requires (omega (arith, c.slim-slim.ensures.is, c.loop-s-test.false)) c.loop-s.invariant
