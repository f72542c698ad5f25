-- Runs: worlds, events, refusals, disks, stored logs, scripts and texts.
pub mod Votes
pub mod World
pub mod Starts
pub mod Refusals
pub mod Devices
pub mod Session
pub mod Script
pub mod Stored
pub mod Text
pub mod Farms
pub mod Reports
