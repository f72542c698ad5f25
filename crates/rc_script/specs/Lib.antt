pub mod Words
pub mod Commands
pub mod Spelling
pub mod Stages
pub mod Reading
pub mod Grammar
