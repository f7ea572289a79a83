pub mod Coming
pub mod Waiting
