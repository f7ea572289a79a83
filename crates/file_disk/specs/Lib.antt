pub mod Files
pub mod Honest
pub mod Moments
pub mod SystemFile
