pub mod Linking
pub mod Judging
