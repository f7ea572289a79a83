pub mod OutputLine
pub mod OutputNames
pub mod Pieces
