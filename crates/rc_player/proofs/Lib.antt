pub mod Clusters
pub mod Pieces
pub mod Scripts
