pub mod Flushes
pub mod Living
pub mod Releasing
