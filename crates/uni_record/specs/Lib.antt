pub mod Event
pub mod Packed
pub mod Recorded
pub mod Refusals
pub mod Run
