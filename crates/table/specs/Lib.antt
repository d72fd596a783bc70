pub mod Sound
pub mod Told
pub mod Checks
pub mod Judgings
