-- Places in a line, ends of lines, and edits. All are promises: clauses of public functions cite them.
pub mod Positions
pub mod LineEnds
pub mod Edits
