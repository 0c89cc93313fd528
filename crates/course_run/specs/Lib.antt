pub mod Goals
pub mod Flaws
