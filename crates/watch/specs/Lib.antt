pub mod Took
pub mod Notices
pub mod Promises
