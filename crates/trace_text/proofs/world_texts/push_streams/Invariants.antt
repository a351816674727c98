use Rattle.std.proofs.Common.{◌≡◌, ◌++◌, drop, string_bytes}
use Rattle.trace_text.specs.WorldTexts.{stream_parts}
use Rattle.trace_text.specs.WorldParts.{streams_of}
use Rattle.trace_text.proofs.world_texts.push_streams.Given as goal

-- the text so far and the streams to come are the whole text
abbrev pub invariant-loop-s : goal.invariant-loop-s
invariant-loop-s g l =
    string_bytes l.text ++ stream_parts l.p l.s (drop l.s (streams_of (g.T.WorldReaders.world l.readers) l.p))
    ≡ string_bytes l.initial.text ++ stream_parts l.p 0 (streams_of (g.T.WorldReaders.world l.readers) l.p)
