pub mod Lists
pub mod Deeds
pub mod Accounts
pub mod Exact
pub mod Rows
pub mod SafeTime
pub mod Homes
pub mod Examples
