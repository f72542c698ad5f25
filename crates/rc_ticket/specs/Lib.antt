pub mod Cards
pub mod Plays
pub mod Rule
