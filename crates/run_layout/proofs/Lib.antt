pub mod Vocabulary
pub mod Adding
pub mod Ranges
pub mod Scripts
pub mod Everything
