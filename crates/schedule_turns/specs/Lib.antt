-- The turns of a schedule, and turns as in a link to a page.
pub mod Turns
pub mod LinkTurns
