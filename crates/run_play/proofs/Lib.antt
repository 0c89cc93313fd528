pub mod Vocabulary
pub mod Telling
pub mod Statuses
pub mod Paging
