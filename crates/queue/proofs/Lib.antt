pub mod Sorts
pub mod Sifts
pub mod Ends
pub mod Promises
pub mod Totals
