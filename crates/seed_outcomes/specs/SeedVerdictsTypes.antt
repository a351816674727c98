-- Types of seed_verdicts that callers name, passed on.
pub use Rattle.space_ends.specs.SeedVerdictsTypes.RunFlaw
pub use Rattle.space_ends.specs.SeedVerdictsTypes.Seeds
