-- What the contracts of this crate cite.
pub mod Acts
pub mod Logs
pub mod Shown
