pub mod Keeping
pub mod Lending
pub mod Nearing
pub mod Refusing
pub mod Space
pub mod Standing
