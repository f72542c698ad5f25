-- What it is for states, causes, events and worlds to be in the grammar: all that may be said of them has a spelling.
pub mod Acts
pub mod Shards
pub mod Coordinators
pub mod Clients
pub mod Worlds
pub mod Back
