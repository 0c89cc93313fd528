pub mod Vocabulary
pub mod Left
pub mod Underway
