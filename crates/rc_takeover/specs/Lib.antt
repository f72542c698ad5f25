-- What the contracts of this crate cite.
pub mod TakeOvers
pub mod Choices
