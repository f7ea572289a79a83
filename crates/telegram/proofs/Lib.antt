pub mod Answering
pub mod Gathering
pub mod Lengths
pub mod PacketsInTurn
pub mod Places
pub mod Spelling
pub mod Walking
pub mod Written
