pub mod Keeping
pub mod Using
