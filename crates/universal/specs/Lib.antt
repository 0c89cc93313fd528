pub use Rattle.seq_object.specs.Sequential
pub use Rattle.seq_object.specs.History
pub use Rattle.uni_words.specs.Belongs
