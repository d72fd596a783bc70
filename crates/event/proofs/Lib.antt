pub mod Wording
pub mod Rows
