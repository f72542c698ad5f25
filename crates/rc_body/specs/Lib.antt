-- What the contracts of this crate and of those above it cite.
pub mod Entries
pub mod Bodies
pub mod Decisions
pub mod Pages
pub mod Spelling
pub mod Reading
pub mod Rows
