pub mod Past
pub mod Windows
