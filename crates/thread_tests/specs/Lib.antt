pub mod Account
pub mod Apart
