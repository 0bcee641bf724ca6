pub mod Tree
pub mod Good
pub mod Parse
