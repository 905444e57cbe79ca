pub mod Faults
pub mod Fields
pub mod Lines
pub mod Text
pub mod Seen
pub mod Counted
pub mod Keywords
pub use Rattle.bump_rules.specs.Lives
