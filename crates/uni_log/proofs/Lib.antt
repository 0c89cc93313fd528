pub mod Vocabulary
pub mod Walk
pub mod Replies
pub mod Legal
pub mod States
pub mod Back
pub mod Along
