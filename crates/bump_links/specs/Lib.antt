pub mod Lists
pub mod Chain
pub mod Spelled
pub mod Relink
pub mod Ascending
