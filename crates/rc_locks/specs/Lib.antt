-- What the contracts of this crate cite.
pub mod Cells
pub mod Flags
pub mod LockSets
pub mod Places
pub mod Runs
