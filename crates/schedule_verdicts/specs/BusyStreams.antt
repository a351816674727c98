-- Definitions of busy_streams that callers name, passed on.
pub use Rattle.busy_streams.specs.Busy
pub use Rattle.busy_streams.specs.BusySpaces
