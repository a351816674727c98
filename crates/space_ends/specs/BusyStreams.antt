-- Definitions of busy_streams that callers name, passed on.
pub use Rattle.seed_verdicts.specs.BusyStreams.Busy
pub use Rattle.seed_verdicts.specs.BusyStreams.BusySpaces
