pub mod Naturals
pub mod Braked
pub mod Roots
pub mod Greatest
pub mod Slower
pub mod Stopping
pub mod Bounding
pub mod Approaching
