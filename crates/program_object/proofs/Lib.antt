pub mod Vocabulary
pub mod Lists
pub mod Sound
pub mod Ending
