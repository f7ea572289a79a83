pub mod Meanings
pub mod Values
pub mod Variables
