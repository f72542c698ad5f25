-- What the contracts of this crate and of those above it cite.
pub mod Plans
pub mod Replays
pub mod Rows
pub mod Sites
