-- Definitions of starving_streams that callers name, passed on.
pub use Rattle.run_answers.specs.StarvingStreams.Reports
pub use Rattle.run_answers.specs.StarvingStreams.Starving
