-- What the contracts of this crate and of those above it cite.
pub mod Acts
pub mod Lasting
pub mod Phases
pub mod Reads
pub mod Slots
