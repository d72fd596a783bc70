pub mod Plays
pub mod Results
pub mod Runs
pub mod Promises
pub mod Verdicts
