pub mod Joins
pub mod GoodInlines
