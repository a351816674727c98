-- Lemmas that several proofs share.
mod Telling
mod AllAreKept
