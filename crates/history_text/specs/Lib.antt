pub mod Told
pub mod Refused
pub mod Own
pub mod Turns
