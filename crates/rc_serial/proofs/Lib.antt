mod Explained
mod Rest
mod Runs
mod VersionFacts
