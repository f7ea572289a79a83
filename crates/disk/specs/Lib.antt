pub mod Choice
pub mod Kept
pub mod Liar
pub mod Memory
pub mod Plan
pub mod Record
pub mod Reserve
pub mod State
