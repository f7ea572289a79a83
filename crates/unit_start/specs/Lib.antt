pub mod Answers
pub mod Events
pub mod Lives
pub mod Numbers
pub mod PowersUp
pub mod Releases
pub mod UnitState
pub mod Written
