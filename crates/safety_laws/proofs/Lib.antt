pub mod Events
mod Commanding
mod ByData
mod ByAuthority
mod Leaving
mod Courses
mod Meeting
mod AuthorityReport
mod AuthorityLater
mod Lessening
mod Passing
mod LowerStarts
mod Releasing
pub mod Finding
