-- Definitions of starving_streams that callers name, passed on.
pub use Rattle.endless_waits.specs.StarvingStreams.Reports
pub use Rattle.endless_waits.specs.StarvingStreams.Starving
