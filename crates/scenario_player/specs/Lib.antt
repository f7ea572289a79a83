pub mod Calls
pub mod Playing
pub mod Refusals
