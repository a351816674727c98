-- Definitions of seed_verdicts that callers name, passed on.
pub use Rattle.space_ends.specs.SeedVerdicts.Seeds
pub use Rattle.space_ends.specs.SeedVerdicts.ShownBySeeds
