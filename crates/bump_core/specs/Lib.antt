pub mod Commands
pub mod Headline
pub mod Labels
pub mod Readers
pub mod Runs
pub use Rattle.bump_links.specs.Lists as LinksLists
pub use Rattle.bump_rules.specs.Accounts
pub use Rattle.bump_rules.specs.Entries
pub use Rattle.bump_rules.specs.Hands
pub use Rattle.bump_rules.specs.Heads
pub use Rattle.bump_rules.specs.History
pub use Rattle.bump_rules.specs.Labels as RulesLabels
pub use Rattle.bump_rules.specs.Lanes
pub use Rattle.bump_rules.specs.Lawful
pub use Rattle.bump_rules.specs.Lists
pub use Rattle.bump_rules.specs.Lives
pub use Rattle.bump_rules.specs.Rings
pub use Rattle.bump_rules.specs.Starts
pub use Rattle.bump_rules.specs.Tables
pub use Rattle.bump_rules.specs.Totals
pub use Rattle.model_state.specs.Events
pub use Rattle.model_state.specs.Opening
pub use Rattle.model_state.specs.Rings as StateRings
pub use Rattle.model_state.specs.State
pub use Rattle.model_state.specs.Sweeps
pub use Rattle.model_state.specs.Views
pub use Rattle.model_state.specs.Worlds
