-- Lemmas that several proofs share.
mod Pushing
mod Runs
mod Overtakings
