-- The one spelling of each message, and how it is read.
pub mod Spelling
pub mod Reading
pub mod Outboxes
pub mod Posts
