pub mod Showing
pub mod Headline
pub mod Causes
