pub mod Comparing
pub mod ReplayState
pub mod Following
pub mod Judgements
pub mod Laws
