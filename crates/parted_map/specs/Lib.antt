pub mod PartedMap
