pub mod Fields
pub mod Kernel
pub mod Kinds
pub mod Layouts
pub mod Listing
pub mod Reading
pub mod Variables
pub mod Whole
