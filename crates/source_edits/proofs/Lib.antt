pub mod SameTexts
pub mod Places
