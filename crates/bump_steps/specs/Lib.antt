pub mod Places
pub mod Seats
pub mod Views
pub mod Rule
pub mod Words
pub mod Plays
pub mod Cuts
pub mod References
pub mod Glances
pub mod Tries
pub mod Marks
pub mod Rides
pub mod Riders
pub mod Lives
pub mod Applications
pub mod Meetings
pub mod Sights
pub use Rattle.atomic_table.specs.Seated
pub use Rattle.atomic_table.specs.Table
pub use Rattle.bump_rules.specs.Accounts
pub use Rattle.bump_rules.specs.Configs
pub use Rattle.bump_rules.specs.Entries
pub use Rattle.bump_rules.specs.Hands
pub use Rattle.bump_rules.specs.Heads
pub use Rattle.bump_rules.specs.History
pub use Rattle.bump_rules.specs.Labels
pub use Rattle.bump_rules.specs.Lanes
pub use Rattle.bump_rules.specs.Lawful
pub use Rattle.bump_rules.specs.Lives as RulesLives
pub use Rattle.bump_rules.specs.Places as RulesPlaces
pub use Rattle.bump_rules.specs.Rings
pub use Rattle.bump_rules.specs.Starts
pub use Rattle.bump_rules.specs.Tables
pub use Rattle.bump_rules.specs.Totals
pub use Rattle.bump_word.specs.Layout
pub use Rattle.bump_word.specs.Words as WordWords
