-- Lemmas that several proofs share.
pub mod CountFacts
pub mod ChoiceFacts
pub mod RowFacts
