-- Parts of a world text by number: none where there is no such processor or stream.
use Rattle.std.specs.Prelude.{ℕ, List, [], Option, Some, None, slice_get}
use Rattle.stream_core.specs.Streams.{StreamValue}
use Rattle.processor.specs.Processors.{ProcessorValue}
use Rattle.processor.specs.World.{World}
use Rattle.trace_text.specs.WorldTexts.{stream_part, processor_part}

abbrev pub stream_part_at : ℕ → ℕ → Option StreamValue → List ℕ
stream_part_at p s None = []
stream_part_at p s (Some v) = stream_part p s v

abbrev pub processor_part_at : ℕ → Option ProcessorValue → List ℕ
processor_part_at p None = []
processor_part_at p (Some d) = processor_part p d

abbrev pub streams_at : Option ProcessorValue → List StreamValue
streams_at None = []
streams_at (Some d) = d.streams

-- the streams of a processor
abbrev pub streams_of : World → ℕ → List StreamValue
streams_of w p = streams_at (slice_get w.processors p)
