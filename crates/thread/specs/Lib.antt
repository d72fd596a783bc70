pub mod Results
pub mod Extent
pub mod Rows
pub mod Sound
pub mod Times
pub mod Tests
pub mod Performing
pub mod Attempt
