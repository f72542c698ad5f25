-- What the contracts of this crate and of those above it cite.
pub mod Acts
pub mod Ends
pub mod Phases
pub mod Reads
pub mod Shares
pub mod Slots
pub mod States
