pub mod Limits
pub mod Stretches
