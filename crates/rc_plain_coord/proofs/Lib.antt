pub mod TableFacts
pub mod CountFacts
pub mod VoteFacts
pub mod ReplayFacts
pub mod SendFacts
pub mod CatchFacts
pub mod HandledFacts
