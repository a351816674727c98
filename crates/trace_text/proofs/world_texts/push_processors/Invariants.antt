use Rattle.std.proofs.Common.{◌≡◌, ◌++◌, drop, string_bytes}
use Rattle.trace_text.specs.WorldTexts.{processor_parts}
use Rattle.trace_text.proofs.world_texts.push_processors.Given as goal

-- the text so far and the processors to come are the whole text
abbrev pub invariant-loop-p : goal.invariant-loop-p
invariant-loop-p g l =
    string_bytes l.text ++ processor_parts l.p (drop l.p (g.T.WorldReaders.world l.readers).processors)
    ≡ string_bytes l.initial.text ++ processor_parts 0 (g.T.WorldReaders.world l.readers).processors
