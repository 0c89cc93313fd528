pub mod ErrorKinds
pub mod Digits
