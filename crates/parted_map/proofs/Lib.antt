pub mod Copies
pub mod Places
