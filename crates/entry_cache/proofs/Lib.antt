pub mod LookLemmas
pub mod WeighLemmas
