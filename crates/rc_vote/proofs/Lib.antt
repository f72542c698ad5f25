-- Lemmas that several proofs share.
pub mod ShardFacts
pub mod GatherFacts
