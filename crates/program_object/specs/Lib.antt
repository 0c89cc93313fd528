pub mod Machine
pub mod Source
pub mod Faults
pub mod Wide
pub mod Words
pub mod Meaning
