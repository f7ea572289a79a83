pub mod Revalidated
mod Storing
pub mod Outstanding
pub mod Giving
mod Validity
pub mod Columns
mod Overridden
