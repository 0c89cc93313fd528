pub mod Parts
pub mod Picture
