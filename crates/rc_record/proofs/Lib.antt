-- Lemmas that several proofs share.
pub mod Rest
pub mod Gone
pub mod OutcomeFacts
pub mod HeadLaws
pub mod RecordLaws
pub mod Newest
pub mod PageFacts
pub mod ByNumber
pub mod OrderFacts
pub mod RowFacts
