pub mod Vocabulary
pub mod Places
pub mod Settling
pub mod Flipping
pub mod Stepping
pub mod Going
pub mod Opening
pub mod Closing
