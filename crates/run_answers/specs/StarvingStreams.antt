-- Definitions of starving_streams that callers name, passed on.
pub use Rattle.starving_streams.specs.Starving
pub use Rattle.starving_streams.specs.Reports
pub use Rattle.starving_streams.specs.Graphs
pub use Rattle.starving_streams.specs.ScheduleSpace
