pub mod Errors
pub mod Steps
pub mod Walks
