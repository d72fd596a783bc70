pub mod Filling
pub mod Reaching
