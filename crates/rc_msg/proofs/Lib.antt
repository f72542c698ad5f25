-- Lemmas that several proofs share.
pub mod MsgLaws
pub mod PostFacts
