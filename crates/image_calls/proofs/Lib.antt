pub mod WalkToEvent
pub mod Asks
pub mod Fewness
pub mod Reading
pub mod Refusing
