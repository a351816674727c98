-- Definitions of endless_waits that callers name, passed on.
pub use Rattle.endless_waits.specs.Waits
