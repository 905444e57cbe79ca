pub mod Columns
pub mod Drafts
pub mod Entries
pub mod Formats
pub mod Keys
pub mod Lines
pub mod Numbering
pub mod Numerals
pub mod Operations
pub mod Records
pub use Rattle.csv.specs.Reading
pub use Rattle.csv.specs.Records as CsvRecords
