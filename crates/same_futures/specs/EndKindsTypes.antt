-- Types of end_kinds that callers name, passed on.
pub use Rattle.end_kinds.specs.declared.kinds.EndKind
