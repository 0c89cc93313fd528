pub mod Histories
pub mod Verdicts
pub mod Parts
pub mod Search
pub mod Worked
