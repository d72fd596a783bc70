pub mod Performed
pub mod Consistent
pub mod Verdicts
pub mod Promises
pub mod Examples
