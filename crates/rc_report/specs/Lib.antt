-- What the contracts of this crate and of those above it cite.
pub mod Names
pub mod Pieces
pub mod Reasons
pub mod Messages
pub mod Faults
pub mod Lines
