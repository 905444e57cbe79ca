pub mod Status
pub mod Ways
pub mod Words
