-- Lemmas that several proofs share.
pub mod Acted
pub mod PageFacts
pub mod Replays
pub mod Rest
pub mod ShownFacts
