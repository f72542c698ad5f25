-- What the contracts of this crate cite beside the rows of a coordinator.
pub mod Acceptors
pub mod Tallies
