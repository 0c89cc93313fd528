pub mod Vocabulary
pub mod Drawing
pub mod CommandLine
