pub mod Fair
pub mod Growth
