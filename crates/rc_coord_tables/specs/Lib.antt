-- What the contracts of this crate cite.
pub mod Maps
pub mod Gathers
pub mod Places
pub mod Takeovers
pub mod Votes
