pub mod Verdict
pub mod CallPlaces
pub mod Audited
