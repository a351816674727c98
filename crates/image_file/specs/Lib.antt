-- The definitions, in the order of reading: an image, the bytes that stand for it, and the first fault of parts and
-- bytes.
pub mod ImageValue
pub mod Same
pub mod Fields
pub mod Versions
pub mod Spelling
pub mod Fault
pub mod Parts
pub mod Reading
pub mod Laws
-- What private contracts say on the way.
pub mod Header
pub mod Answers
-- Proofs on which `==` of images rests; an impl can take none from proofs/.
pub mod SameLaws
