pub mod Schedule
pub mod Graph
pub mod Examples
pub mod AtHand
