pub mod Layout
pub mod Words
pub mod Steps
pub use Rattle.bump_rules.specs.Configs
pub use Rattle.bump_rules.specs.Heads
pub use Rattle.bump_rules.specs.Lawful
