pub mod Views
pub mod Reading
pub mod Booking
pub mod Linking
pub mod Looking
pub mod Draining
pub mod Applying
pub mod Opening
pub use Rattle.bump_class.specs.Books
pub use Rattle.bump_class.specs.Changes
pub use Rattle.bump_class.specs.Ends
pub use Rattle.bump_class.specs.Lanes
pub use Rattle.bump_class.specs.Links
pub use Rattle.bump_class.specs.Pulls
pub use Rattle.bump_class.specs.Runs
pub use Rattle.bump_class.specs.Sweeps
pub use Rattle.bump_heads.specs.Linking as HeadsLinking
pub use Rattle.bump_unlocked.specs.Closing
pub use Rattle.bump_unlocked.specs.Gets
pub use Rattle.bump_unlocked.specs.Holds
pub use Rattle.bump_unlocked.specs.UnlockedStore
pub use Rattle.bump_unlocked.specs.StepCounts
pub use Rattle.bump_unlocked.specs.Touches
pub use Rattle.bump_unlocked.specs.Workers
pub use Rattle.bump_readers.specs.Attempts
pub use Rattle.bump_rules.specs.Entries
pub use Rattle.bump_links.specs.Lists as LinksLists
pub use Rattle.bump_rules.specs.Labels
pub use Rattle.bump_rules.specs.Lists
pub use Rattle.bump_rules.specs.Rings
pub use Rattle.bump_steps.specs.References
pub use Rattle.bump_steps.specs.Rule
pub use Rattle.bump_steps.specs.Views as StepsViews
