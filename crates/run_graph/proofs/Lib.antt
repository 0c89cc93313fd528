pub mod Vocabulary
pub mod Along
pub mod Parts
pub mod Moves
pub mod Reached
pub mod AtHand
