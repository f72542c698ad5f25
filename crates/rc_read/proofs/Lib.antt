-- Lemmas that several proofs share.
pub mod LeftFacts
pub mod GrantFacts
pub mod ReadFacts
pub mod PollFacts
