pub mod Play
pub mod Written
