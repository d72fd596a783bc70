pub mod Matrix
pub mod Names
pub mod Numbers
pub mod Tables
