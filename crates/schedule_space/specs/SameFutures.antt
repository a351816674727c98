-- Definitions of same_futures that callers name, passed on.
pub use Rattle.agreeing_ends.specs.SameFutures.Agreeing
pub use Rattle.agreeing_ends.specs.SameFutures.Handlers
pub use Rattle.agreeing_ends.specs.SameFutures.Links
