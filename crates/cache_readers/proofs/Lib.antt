mod GlanceLemmas
mod LookLemmas
mod MissLemmas
pub mod ReaderLemmas
pub mod LastSteps
pub mod GrownLemmas
pub mod TakenLemmas
pub mod FoundRows
