-- Types of claims that callers name, passed on.
pub use Rattle.claims.specs.declared.claim.ClaimForm
pub use Rattle.claims.specs.declared.claim.LeadsTo
pub use Rattle.claims.specs.declared.run_conditions.Fairness
pub use Rattle.claims.specs.declared.run_conditions.Overtaking
pub use Rattle.claims.specs.declared.run_conditions.Rest
pub use Rattle.claims.specs.declared.run_conditions.RunCondition
