-- What the contracts of this crate cite.
pub mod Orders
pub mod Counts
pub mod Logs
