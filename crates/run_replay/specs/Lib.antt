pub mod Vocabulary
pub mod Held
pub mod Scenes
pub mod Marks
pub mod MarkLaws
