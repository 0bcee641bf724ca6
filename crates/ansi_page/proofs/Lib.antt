pub mod Weaker
pub mod Printing
