pub mod Colored
