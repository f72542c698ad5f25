-- What a disk tells, what a crash leaves, and what a farm keeps.
pub mod Calls
pub mod Counts
pub mod Crashes
pub mod Places
pub mod Past
pub mod Memory
pub mod Steps
pub mod MemDisks
pub mod Shelves
pub mod MemFarms
pub mod HostDisks
pub mod HostFarms
