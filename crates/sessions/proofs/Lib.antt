pub mod Made
pub mod Description
