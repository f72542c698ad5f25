pub mod Checks
pub mod Generator
pub mod Plans
pub mod Program
pub mod Sound
pub mod Words
pub mod Workload
