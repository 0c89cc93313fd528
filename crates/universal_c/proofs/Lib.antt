pub mod Vocabulary
pub mod Called
pub mod Places
pub mod Pointers
pub mod Seats
pub mod Sent
pub mod Writing
