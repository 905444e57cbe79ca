mod events
pub mod Held
pub mod NewClasses
pub mod Stores
