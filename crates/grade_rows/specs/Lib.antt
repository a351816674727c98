-- Of crates below, passed on to callers.
pub mod Judgements
pub mod JudgementsTypes
