pub mod GhostLemmas
pub mod LineLemmas
pub mod QueueLemmas
pub mod TableLemmas
