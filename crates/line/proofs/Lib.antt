pub mod Counting
pub mod RoundTrip
pub mod Bounds
pub mod Drafting
