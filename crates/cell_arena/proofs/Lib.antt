pub mod Vocabulary
pub mod Places
pub mod Lists
pub mod Changes
pub mod ArenaOf
pub mod CellsIn
pub mod FlatArena
