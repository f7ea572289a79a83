pub mod Mapped
pub mod Numbers
