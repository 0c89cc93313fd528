pub mod Sequential
pub mod History
pub mod SwapRegister
pub mod Exact
pub mod Indices
