pub mod Gathering
pub mod Later
pub mod Sums
