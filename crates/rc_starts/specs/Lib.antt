-- The records of a node's own kind.
pub mod Kinds
