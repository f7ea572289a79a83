pub mod Elements
pub mod Faults
pub mod Layouts
pub mod Limits
pub mod Packets
pub mod Parts
pub mod Spelling
pub mod StaticSteps
