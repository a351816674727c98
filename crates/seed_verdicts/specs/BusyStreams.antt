-- Definitions of busy_streams that callers name, passed on.
pub use Rattle.schedule_verdicts.specs.BusyStreams.Busy
pub use Rattle.schedule_verdicts.specs.BusyStreams.BusySpaces
