pub mod Calls
pub mod Demands
pub mod Findings
pub mod Guarding
pub mod Laws
pub mod Table
pub mod Worked
