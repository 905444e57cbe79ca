pub mod Parts
pub mod Signed
pub mod Spelling
pub mod SpellingLaws
pub mod Strings
pub mod StringLaws
