pub mod Numbering
pub mod Walks
