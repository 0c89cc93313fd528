pub mod Vocabulary
pub mod Parts
pub mod Picture
