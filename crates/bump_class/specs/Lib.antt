pub mod Books
pub mod Changes
pub mod Links
pub mod Ends
pub mod Sweeps
pub mod Pulls
pub mod Lanes
pub mod Applications
pub mod Sizes
pub mod Runs
pub use Rattle.bump_heads.specs.Applying
pub use Rattle.bump_heads.specs.Linking
pub use Rattle.bump_heads.specs.Seats
pub use Rattle.bump_links.specs.Lists as LinksLists
pub use Rattle.bump_readers.specs.Seats as ReadersSeats
pub use Rattle.bump_ring.specs.Ends as RingEnds
pub use Rattle.bump_rules.specs.Entries
pub use Rattle.bump_rules.specs.History
pub use Rattle.bump_rules.specs.Labels
pub use Rattle.bump_rules.specs.Lanes as RulesLanes
pub use Rattle.bump_rules.specs.Lawful
pub use Rattle.bump_rules.specs.Lists
pub use Rattle.bump_rules.specs.Lives as RulesLives
pub use Rattle.bump_rules.specs.Places
pub use Rattle.bump_rules.specs.Rings
pub use Rattle.bump_rules.specs.Sweeps as RulesSweeps
pub use Rattle.bump_rules.specs.Tables
pub use Rattle.bump_rules.specs.Totals
pub use Rattle.bump_steps.specs.Applications as StepsApplications
pub use Rattle.bump_steps.specs.Lives
pub use Rattle.bump_steps.specs.Meetings
pub use Rattle.bump_steps.specs.Plays
pub use Rattle.bump_steps.specs.References
pub use Rattle.bump_steps.specs.Riders
pub use Rattle.bump_steps.specs.Rule
pub use Rattle.bump_steps.specs.Sights
pub use Rattle.bump_steps.specs.Views
pub use Rattle.bump_word.specs.Words
