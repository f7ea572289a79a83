pub mod Bounded
pub mod Heads
pub mod Listings
pub mod Rows
pub mod Steps
