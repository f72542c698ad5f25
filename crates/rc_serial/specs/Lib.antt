-- What the contracts of this crate cite.
pub mod OneMap
pub mod Orders
pub mod Versions
