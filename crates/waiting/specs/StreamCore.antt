-- Definitions of stream_core that callers name, passed on.
pub use Rattle.stream_core.specs.Streams
