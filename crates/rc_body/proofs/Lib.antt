-- Lemmas that several proofs share.
pub mod BodyFacts
pub mod Places
pub mod PageFacts
pub mod ReadingLaws
pub mod Written
pub mod Growing
pub mod RowFacts
pub mod PartFacts
