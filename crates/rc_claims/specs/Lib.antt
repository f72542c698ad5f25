-- What is claimed of runs.
pub mod Outcomes
pub mod Lives
pub mod Whole
pub mod Quiet
pub mod Calm
pub mod CalmScripts
