-- What the contracts of this crate and of those above it cite.
pub mod Places
pub mod Hosts
pub mod Wells
pub mod Logs
pub mod Beginnings
pub mod Gatherings
pub mod Starts
