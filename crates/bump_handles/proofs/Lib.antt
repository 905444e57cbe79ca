pub mod PlaceLemmas
mod RestLemmas
mod RunLemmas
pub mod TakeLemmas
mod LookLemmas
