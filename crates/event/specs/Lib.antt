pub mod Kinds
pub mod Events
