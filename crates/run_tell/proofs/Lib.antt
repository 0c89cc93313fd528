pub mod Vocabulary
pub mod Tellings
pub mod Observed
pub mod Escapes
