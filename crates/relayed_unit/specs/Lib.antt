pub mod Goings
pub mod LifeNow
pub mod Looks
pub mod Needs
pub mod Openings
pub mod Relayed
