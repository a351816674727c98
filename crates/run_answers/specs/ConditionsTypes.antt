-- Types of conditions on runs that callers name, passed on.
pub use Rattle.starving_streams.specs.ClaimsTypes.RunCondition
pub use Rattle.starving_streams.specs.ClaimsTypes.Fairness
pub use Rattle.starving_streams.specs.ClaimsTypes.Rest
