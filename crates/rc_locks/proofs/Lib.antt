-- Lemmas that several proofs share.
pub mod CellFacts
pub mod FlagFacts
pub mod FreeFacts
pub mod IndexFacts
pub mod MarkLists
pub mod MoveFacts
pub mod PartFacts
pub mod PlaceFacts
pub mod Rest
pub mod RunFacts
pub mod TakeFacts
