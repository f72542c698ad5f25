-- Lemmas that several proofs share.
pub mod ActFacts
pub mod DropFacts
pub mod RowFacts
pub mod SendFacts
pub mod SlotFacts
