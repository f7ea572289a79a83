pub mod Limits
pub mod Brakes
