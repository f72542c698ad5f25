-- What the contracts of this crate cite.
pub mod Disks
pub mod Networks
pub mod Hosts
pub mod Acted
pub mod Sessions
pub mod Lines
pub mod Starts
