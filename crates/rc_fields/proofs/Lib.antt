-- Lemmas that several proofs share.
pub mod Again
pub mod FormatLaws
pub mod NameLaws
pub mod ManyLoop
pub mod WholeLaws
pub mod Behind
