-- The definitions, in the order of reading. Public contracts cite these: they are what the crate promises.
pub mod Operations
pub mod Fields
pub mod Words
pub mod Reading
pub mod Laws
pub mod ShortInsns
-- What the code has of them on its way: only private contracts and proofs cite this.
pub mod Parts
