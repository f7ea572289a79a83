pub mod Leaving
pub mod Missing
pub mod Numbering
