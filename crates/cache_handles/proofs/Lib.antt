pub mod ConfigLemmas
pub mod ShelfPuts
pub mod DeskLemmas
pub mod ReaderLemmas
pub mod OpeningLemmas
