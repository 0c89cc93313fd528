pub mod Register
pub mod Tables
pub mod Machine
