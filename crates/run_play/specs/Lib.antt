pub mod Fault
pub mod Plans
pub mod Edges
pub mod Play
