pub mod Ended
pub mod Pending
pub mod Feed
pub mod Errors
pub mod Answers
pub mod Calls
pub mod Plain
pub mod Log
