-- Lemmas of this crate's proofs.
mod Entries
mod Ranges
