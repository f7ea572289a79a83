pub mod Units
pub mod Verdicts
pub mod Excluding
pub mod Later
