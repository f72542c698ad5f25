-- Lemmas that several proofs share.
pub mod BallotFacts
pub mod LayoutFacts
pub mod LetterFacts
pub mod QuorumFacts
pub mod SetFacts
pub mod TextFacts
pub mod WeightFacts
