pub mod Carried
pub mod Copied
pub mod Found
pub mod Handed
pub mod Holding
pub mod Missing
pub mod Noted
pub mod Shut
