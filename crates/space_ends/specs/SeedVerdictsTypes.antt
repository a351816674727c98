-- Types of seed_verdicts that callers name, passed on.
pub use Rattle.seed_verdicts.specs.declared.run_flaw.RunFlaw
pub use Rattle.seed_verdicts.specs.declared.run_flaw.Seeds
