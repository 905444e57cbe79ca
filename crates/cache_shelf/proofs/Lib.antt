pub mod Keeping
pub mod Putting
pub mod Moving
pub mod Removing
pub mod Visiting
pub mod TakingLemmas
pub mod EvictingLemmas
