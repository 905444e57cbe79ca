pub mod ListsLemmas
pub mod SpellsLemmas
pub mod ChainLemmas
pub mod MoveLemmas
pub mod ReadLemmas
pub mod AscendingLemmas
pub mod RangeLemmas
