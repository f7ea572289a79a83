pub mod Handed
pub mod Known
pub mod Lent
pub mod Medium
pub mod Requesting
pub mod Requests
