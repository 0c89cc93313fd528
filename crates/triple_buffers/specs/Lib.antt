pub mod Contents
pub mod Buffer
pub mod Seats
pub mod Parties
pub mod Laid
pub mod Closed
