pub mod Sorts
pub mod Heaps
pub mod Orders
