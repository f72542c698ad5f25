-- What the contracts of this crate and of those above it cite.
pub mod Steps
pub mod Votes
pub mod Mail
pub mod Clients
pub mod Weights
pub mod OneClient
pub mod Turns
pub mod Acted
pub mod Worlds
pub mod Words
pub mod Limits
pub mod Refused
pub mod CoordActed
pub mod Noted
pub mod Asked
pub mod Shown
