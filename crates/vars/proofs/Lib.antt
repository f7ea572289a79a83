pub mod Numbers
mod OwnNumbers
