pub mod Identity
pub mod Keys
pub mod Lists
pub mod Passing
pub mod Readings
pub mod Sifting
pub mod TextAnswers
pub mod ValueFaults
