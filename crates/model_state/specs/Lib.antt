pub mod Events
pub mod Opening
pub mod Rings
pub mod State
pub mod Sweeps
pub mod Views
pub mod Workers
pub mod Worlds
pub use Rattle.bump_links.specs.Lists as LinksLists
pub use Rattle.bump_rules.specs.Configs
pub use Rattle.bump_rules.specs.Entries
pub use Rattle.bump_rules.specs.Hands
pub use Rattle.bump_rules.specs.Heads
pub use Rattle.bump_rules.specs.History
pub use Rattle.bump_rules.specs.Lanes
pub use Rattle.bump_rules.specs.Lawful
pub use Rattle.bump_rules.specs.Lists
pub use Rattle.bump_rules.specs.Lives
pub use Rattle.bump_rules.specs.Rings as RulesRings
pub use Rattle.bump_rules.specs.Starts
pub use Rattle.bump_rules.specs.Sweeps as RulesSweeps
pub use Rattle.bump_rules.specs.Tables
pub use Rattle.bump_rules.specs.Totals
