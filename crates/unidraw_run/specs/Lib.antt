pub mod Vocabulary
pub mod CommandLine
pub mod Drawn
