pub mod Spelled
pub mod StringReads
