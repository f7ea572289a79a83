pub mod GateRead
pub mod GivenBack
pub mod Going
pub mod Holding
pub mod Numbering
pub mod Pending
pub mod Resting
