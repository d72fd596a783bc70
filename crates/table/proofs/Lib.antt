pub mod Answers
pub mod Mapped
pub mod Threads
pub mod Calls
pub mod Notices
pub mod Judgings
