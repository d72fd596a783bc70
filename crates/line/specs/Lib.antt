pub mod Codes
pub mod Columns
pub mod Lines
pub mod Drafts
