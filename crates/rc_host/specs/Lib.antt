-- What the contracts of this crate and of those above it cite.
pub mod AnyNode
pub mod Causes
pub mod Standing
pub mod Hosts
pub mod Disks
pub mod Restarts
pub mod Begins
pub mod NewestHeads
pub mod ShardReplays
pub mod ShardLogs
pub mod CoordReplays
pub mod CoordLogs
