-- What the contracts of this crate and of those above it cite.
pub mod Heads
pub mod Kinds
pub mod Spelling
pub mod Reading
pub mod Rows
pub mod ShardState
pub mod InOrder
pub mod CoordState
pub mod Replay
