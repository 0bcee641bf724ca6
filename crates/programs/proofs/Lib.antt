pub mod Transfers
pub mod Endings
