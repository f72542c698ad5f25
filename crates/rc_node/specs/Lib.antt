-- What the contracts of this crate and of the nodes cite.
pub mod Acts
pub mod Cores
pub mod Numbers
