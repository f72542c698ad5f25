-- Lemmas that several proofs share.
pub mod PageFacts
pub mod PlanFacts
pub mod ReplayFacts
pub mod RowFacts
pub mod SettleFacts
pub mod StartFacts
pub mod WriteFacts
