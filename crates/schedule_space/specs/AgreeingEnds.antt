-- Definitions of agreeing_ends that callers name, passed on.
pub use Rattle.agreeing_ends.specs.FirstSets
pub use Rattle.agreeing_ends.specs.Followed
pub use Rattle.agreeing_ends.specs.Unseen
