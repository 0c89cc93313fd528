pub mod Counted
pub mod Replay
