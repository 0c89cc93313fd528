pub mod StackWords
