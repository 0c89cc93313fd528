pub mod Cases
pub mod Legality
