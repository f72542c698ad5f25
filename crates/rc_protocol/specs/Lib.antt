-- The step table: rows, nodes and what a party does.
pub mod Messages
pub mod Shard
pub mod Coordinator
pub mod Client
pub mod Nodes
pub mod Acts
pub mod Shown
