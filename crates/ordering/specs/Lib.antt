pub mod Classes
pub mod Laws
pub mod Named
pub mod Names
pub mod Tables
