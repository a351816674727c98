-- Types of endless_waits that callers name, passed on.
pub use Rattle.endless_waits.specs.declared.waits.EndlessWaits
