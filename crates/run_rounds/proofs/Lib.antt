-- Lemmas that several proofs share.
mod Runs
