mod GetLemmas
mod AttemptLemmas
mod HitLemmas
mod StepLemmas
pub mod GrowingLists
pub mod ClosingLemmas
mod NewSheets
