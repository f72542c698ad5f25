-- What the contracts of this crate cite.
pub mod Replays
pub mod Sites
pub mod Rows
