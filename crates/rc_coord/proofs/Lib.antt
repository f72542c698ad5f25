-- Lemmas that several proofs share.
mod ActFacts
mod GatherActs
mod GatherRows
mod HandlingFacts
mod OpenFacts
mod PageRows
mod PostFacts
mod PreparedFacts
mod PromiseFacts
mod RowFacts
mod ReplayFacts
mod StartFacts
