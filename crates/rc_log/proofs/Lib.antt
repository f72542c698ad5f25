-- Lemmas that several proofs share.
pub mod Frames
pub mod Images
pub mod Moments
pub mod Crashes
pub mod Stops
pub mod Runs
pub mod Begin
pub mod Opened
pub mod Powers
