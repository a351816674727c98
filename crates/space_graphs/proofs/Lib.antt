-- Lemmas.
mod EndsAhead
