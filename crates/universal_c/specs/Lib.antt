pub mod Calls
pub mod Meaning
pub mod Owned
pub mod ProgramCalls
pub mod SmallCalls
pub mod SmallMeaning
pub mod SmallOrphans
pub mod Told
