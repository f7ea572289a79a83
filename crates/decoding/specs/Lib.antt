pub mod Fields
pub mod Lines
pub mod Showing
