pub mod Order
pub mod Exact
pub mod Waiting
