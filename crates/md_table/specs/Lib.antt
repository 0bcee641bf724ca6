pub mod AlertKind
pub mod Sheet
pub mod Defaults
pub mod Answers
pub mod Custom
pub mod Builder
