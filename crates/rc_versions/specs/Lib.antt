-- What the contracts of this crate cite.
pub mod Heads
pub mod Pages
pub mod Rows
