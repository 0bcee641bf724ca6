pub mod Levels
pub mod Fairness
pub mod Growing
