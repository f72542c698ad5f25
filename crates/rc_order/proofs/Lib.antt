-- Lemmas that several proofs share.
pub mod ListFacts
pub mod VoteFacts
pub mod ChoiceFacts
pub mod LogFacts
