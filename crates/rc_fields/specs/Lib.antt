-- The spelling of fields, and how they are read.
pub mod Spelling
pub mod Reading
pub mod Formats
pub mod Names
pub mod Laws
pub mod Ranges
pub mod Whole
