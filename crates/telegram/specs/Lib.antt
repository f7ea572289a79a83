pub mod Encodings
pub mod Faults
pub mod Gathering
pub mod Sequences
pub mod Telegrams
pub mod Walks
