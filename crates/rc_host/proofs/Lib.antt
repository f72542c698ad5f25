-- Lemmas on hosts.
pub mod Growing
pub mod OpenFacts
pub mod Acting
pub mod Stopping
pub mod Turning
pub mod Remembering
pub mod ShardRecords
pub mod CoordRecords
pub mod Logging
pub mod CoordLogging
pub mod Restarting
pub mod Beginning
pub mod BeginGrown
pub mod Starting
pub mod StandingFacts
pub mod Rejoining
