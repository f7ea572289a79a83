pub mod Covering
pub mod Meeting
pub mod Restrictions
pub mod Profiles
pub mod Facts
pub mod Remembered
pub mod Changes
pub mod Segments
