pub mod Xml
pub mod Svg
