pub mod Vocabulary
pub mod Replayed
pub mod Telling
pub mod Linking
pub mod Boxed
pub mod Inside
pub mod Replies
