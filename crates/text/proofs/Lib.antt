pub mod Passing
pub mod Feedless
pub mod WholeText
