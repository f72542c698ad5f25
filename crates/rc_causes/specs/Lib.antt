-- Why lines are printed.
pub mod Moments
pub mod Printed
pub mod Stops
pub mod Refused
pub mod Aborts
pub mod Calls
pub mod Faults
pub mod Unread
