pub mod Calls
pub mod Fates
pub mod Laws
pub mod Never
pub mod Description
pub mod Texts
