pub mod CutWords
pub mod NameBytes
pub mod ReadDigits
