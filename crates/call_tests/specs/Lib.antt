pub mod Pairs
pub mod Shelves
