pub mod Vocabulary
pub mod Json
pub mod Told
pub mod TraceLines
pub mod Sentences
pub mod History
pub mod Page
