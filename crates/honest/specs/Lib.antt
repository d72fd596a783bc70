pub mod Machine
pub mod Record
pub mod Limits
pub mod Honest
pub mod Examples
pub mod Corners
