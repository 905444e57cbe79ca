pub mod Keeping
pub mod Refusing
pub mod Sights
pub mod Freeing
pub mod SizeLemmas
pub mod LaneLemmas
pub mod UpdateLemmas
pub mod ApplicationLemmas
pub mod RunLemmas
pub mod EndLemmas
pub mod FreeRuns
pub mod Walks
pub mod MoveLemmas
pub mod Widening
mod Tables
