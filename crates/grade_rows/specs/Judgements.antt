-- Definitions of judgements that callers name, passed on.
pub use Rattle.judgements.specs.Shown
pub use Rattle.judgements.specs.Verdicts
pub use Rattle.judgements.specs.ProgramSearches
