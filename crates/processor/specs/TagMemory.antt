-- Definitions of tag_memory that callers name, passed on.
pub use Rattle.tag_memory.specs.Answer
pub use Rattle.tag_memory.specs.Cell
pub use Rattle.tag_memory.specs.Chain
pub use Rattle.tag_memory.specs.Storage
