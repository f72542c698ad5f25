-- Which run the history of a wire composes to.
pub mod Composed
pub mod Parts
pub mod Steps
pub mod Cuts
pub mod Deeds
pub mod Moves
pub mod Messages
pub mod Prints
pub mod OneRun
