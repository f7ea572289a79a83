pub mod Reported
pub mod Track
pub mod Limit
pub mod Ahead
pub mod Starts
pub mod Targets
