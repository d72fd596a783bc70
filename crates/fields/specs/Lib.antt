pub mod Parses
pub mod Splits
pub mod Numbers
pub mod Words
pub mod Steps
