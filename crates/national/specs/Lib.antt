pub mod Limits
pub mod Values
pub mod InForce
