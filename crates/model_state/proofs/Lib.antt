pub mod Enabled
pub mod Fronts
pub mod LawfulStates
pub mod LookUps
pub mod Ring
pub mod Tiles
