pub mod Splitting
pub mod Lacking
pub mod Numerals
pub mod Spelling
pub mod Stepping
