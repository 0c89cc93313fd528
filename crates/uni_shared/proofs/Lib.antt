pub mod Vocabulary
pub mod Counting
pub mod Closing
pub mod Differing
pub mod Holding
pub mod HoldsInOrder
