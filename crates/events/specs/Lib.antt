pub mod Blank
pub mod Limits
pub mod Kept
pub mod Indications
pub mod Nothing
