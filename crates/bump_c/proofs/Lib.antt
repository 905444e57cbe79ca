pub mod Brands
pub mod Steps
pub mod AsBox
pub mod Moved
pub mod Crossing
