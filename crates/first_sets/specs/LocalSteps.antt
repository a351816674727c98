-- Definitions of local_steps that callers name, passed on.
pub use Rattle.local_steps.specs.NeverAsking
