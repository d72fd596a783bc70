pub mod Rules
pub mod Setups
