pub mod ViewError
pub mod Shown
