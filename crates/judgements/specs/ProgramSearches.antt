-- Definitions of program_searches that callers name, passed on.
pub use Rattle.program_searches.specs.Statuses
