-- Types of processor that callers name, passed on.
pub use Rattle.processor.specs.declared.steps.Next
pub use Rattle.processor.specs.declared.steps.Step
