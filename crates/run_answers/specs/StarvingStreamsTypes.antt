-- Types of starving_streams that callers name, passed on.
pub use Rattle.starving_streams.specs.declared.reports.Starving
pub use Rattle.starving_streams.specs.declared.reports.StarvingStreams
