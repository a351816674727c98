-- Definitions of seed_verdicts that callers name, passed on.
pub use Rattle.seed_verdicts.specs.RunFlaws
pub use Rattle.seed_verdicts.specs.Seeds
pub use Rattle.seed_verdicts.specs.ShownBySeeds
