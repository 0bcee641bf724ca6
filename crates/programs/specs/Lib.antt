pub mod Status
pub mod Reading
pub mod Writing
pub mod Ran
pub mod Number
