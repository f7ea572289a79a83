pub mod Arguments
pub mod EtcsArguments
pub mod Statuses
