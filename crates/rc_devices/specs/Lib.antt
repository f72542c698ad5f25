-- Disks that tell their calls, as the devices of a run.
pub mod Disks
pub mod Laws
