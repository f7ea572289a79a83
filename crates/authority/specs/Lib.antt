pub mod Entries
pub mod Timers
pub mod Track
pub mod Authority
pub mod Known
pub mod Steps
pub mod Untimed
pub mod Laws
