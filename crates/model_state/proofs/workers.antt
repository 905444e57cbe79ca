pub mod Counts
pub mod Received
