-- Definitions of claims that callers name, passed on.
pub use Rattle.claims.specs.Holding
