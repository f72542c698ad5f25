-- Lemmas on disks that tell their calls.
pub mod Numbers
pub mod ReadNumbers
pub mod Rows
pub mod Appends
pub mod Openings
pub mod Staying
