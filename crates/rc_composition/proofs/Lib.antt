-- Lemmas that several proofs share.
pub mod Cutting
pub mod Acting
pub mod Moving
pub mod Sending
pub mod Runs
pub mod Numbered
pub mod Entries
pub mod Begins
pub mod OwnEvents
pub mod ClientsStay
pub mod Posting
pub mod Fronts
pub mod Posted
pub mod Composing
pub mod Rising
pub mod Flights
pub mod Pending
