pub mod Answers
pub mod Chains
pub mod Laws
pub mod Runs
pub mod Stops
pub mod Written
