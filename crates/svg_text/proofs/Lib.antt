pub mod Vocabulary
pub mod Escapes
pub mod Trees
