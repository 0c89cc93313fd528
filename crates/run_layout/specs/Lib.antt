pub mod Vocabulary
pub mod Choice
pub mod Axis
pub mod Wording
pub mod Marked
pub mod Subject
