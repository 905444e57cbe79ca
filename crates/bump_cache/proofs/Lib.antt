mod Behind
pub mod PairLemmas
pub mod Telling
pub mod SettingLemmas
pub mod HeldLemmas
pub mod Noting
pub mod ManyLemmas
pub mod ManyTaken
pub mod Choices
pub mod Rounds
pub mod Beginning
pub mod NewParts
pub mod NewReaders
pub mod ChangingLemmas
pub mod VisitLemmas
pub mod RetainLemmas
pub mod EndingLemmas
