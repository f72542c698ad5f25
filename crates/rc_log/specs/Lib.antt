-- What a log stands for, and what its calls leave.
pub mod Records
pub mod Append
pub mod Reading
pub mod Journals
pub mod Intact
pub mod Opening
pub mod Words
pub mod Lists
pub mod Laws
