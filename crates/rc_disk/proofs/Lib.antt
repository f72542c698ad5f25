mod Inked
mod Lists
mod Pasts
mod Leavings
mod Slots
mod MemFarms
mod HostFarms
