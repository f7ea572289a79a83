pub mod Chains
pub mod Damage
pub mod LastBlock
pub mod Onward
pub mod RunEnds
pub mod Stepping
pub mod Stopping
pub mod WholeLives
