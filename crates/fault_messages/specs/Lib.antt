-- When messages say that a text is refused. It is a promise: clauses of public functions cite it.
pub mod Messages
