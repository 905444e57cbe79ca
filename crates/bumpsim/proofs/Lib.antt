pub mod Commands
pub mod OnWords
