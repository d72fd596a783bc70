pub mod Ruling
pub mod Pairs
pub mod SetupLine
