-- When an image keeps a rule, and which operation a name is of.
pub mod Keeping
pub mod Names
