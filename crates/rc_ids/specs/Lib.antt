-- What the contracts of this crate and of those above it cite.
pub mod Ballots
pub mod Cluster
pub mod Letters
pub mod Marks
pub mod Padded
pub mod Parties
pub mod Quorum
pub mod Sets
pub mod Tables
pub mod Texts
