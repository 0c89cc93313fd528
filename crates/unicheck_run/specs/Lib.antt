pub mod Found
pub mod Judged
pub mod Stopped
