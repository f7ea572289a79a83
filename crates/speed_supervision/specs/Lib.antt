pub mod Limit
pub mod Laws
pub mod Over
pub mod Targets
pub mod Supervised
pub mod Steady
pub mod Causes
