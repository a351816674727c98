-- Types of schedule_space that callers name, passed on.
pub use Rattle.schedule_space.specs.declared.explorations.Exploration
pub use Rattle.schedule_space.specs.declared.fates.Fate
pub use Rattle.schedule_space.specs.declared.links.Edge
pub use Rattle.schedule_space.specs.declared.watches.Bound
