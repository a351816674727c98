-- Types of space_ends that callers name, passed on.
pub use Rattle.space_ends.specs.declared.end_values.SpaceEnd
