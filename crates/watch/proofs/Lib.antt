pub mod Taking
pub mod Promising
