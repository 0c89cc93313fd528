pub mod Vocabulary
pub mod Named
pub mod Written
pub mod SharedPlaces
pub mod Transitions
pub mod Shown
pub mod Steppable
pub mod Begin
pub mod Counted
pub mod Stepped
pub mod Reading
pub mod Runs
mod Walk
mod OpenedWorld
mod NoCalls
pub mod Renewed
pub mod Likeness
pub mod NextStep
