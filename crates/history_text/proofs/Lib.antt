pub mod Telling
pub mod Turning
