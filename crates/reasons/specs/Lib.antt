pub mod Runs
pub mod Closings
pub mod Reported
pub mod CauseTexts
pub mod LimitTexts
pub mod GroupTexts
pub mod Trips
pub mod TripTexts
