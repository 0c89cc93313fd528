pub mod Vocabulary
pub mod Canvas
pub mod Parts
pub mod Lines
