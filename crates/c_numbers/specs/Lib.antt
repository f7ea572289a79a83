pub mod KeptItems
pub mod NationalItems
pub mod Numbers
