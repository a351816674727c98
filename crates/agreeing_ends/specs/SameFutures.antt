-- Definitions of same_futures that callers name, passed on.
pub use Rattle.same_futures.specs.Agreeing
pub use Rattle.same_futures.specs.Handlers
pub use Rattle.same_futures.specs.Links
