-- What the contracts of this crate cite.
pub mod Network
pub mod Parcels
pub mod Shown
