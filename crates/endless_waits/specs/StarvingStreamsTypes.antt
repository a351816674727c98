-- Types of starving_streams that callers name, passed on.
pub use Rattle.run_answers.specs.StarvingStreamsTypes.Starving
pub use Rattle.run_answers.specs.StarvingStreamsTypes.StarvingStreams
