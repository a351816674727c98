-- When an observation fits a fact, which line of advice is said, and what an end shows in place of what is expected.
pub mod Facts
pub mod Choosing
pub mod Shortfalls
