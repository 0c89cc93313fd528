pub mod Vocabulary
pub mod Corners
pub mod Rest
pub mod Sides
