pub mod Counting
pub mod Saying
