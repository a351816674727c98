pub mod Places
pub mod OneCall
