pub mod Braking
pub mod Sums
pub mod Approaches
