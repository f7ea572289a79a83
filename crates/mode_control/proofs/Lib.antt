pub mod Known
pub mod Standing
pub mod Untripped
pub mod Resting
pub mod Keeping
