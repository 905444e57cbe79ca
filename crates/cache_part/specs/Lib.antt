pub mod Evicting
pub mod Expiring
pub mod Keys
pub mod Looks
pub mod Parts
pub mod Putting
pub mod Stats
pub mod Taking
pub mod Tending
pub mod Visiting
pub use Rattle.bump_class.specs.Books
pub use Rattle.bump_class.specs.Changes
pub use Rattle.bump_class.specs.Lanes
pub use Rattle.bump_class.specs.Links
pub use Rattle.bump_class.specs.Sweeps
pub use Rattle.bump_links.specs.Lists as LinksLists
pub use Rattle.bump_rules.specs.Lists
pub use Rattle.bump_steps.specs.Views
pub use Rattle.cache_lists.specs.Ages
pub use Rattle.cache_lists.specs.Counts
pub use Rattle.cache_lists.specs.Draining
pub use Rattle.cache_lists.specs.Expiring as ListsExpiring
pub use Rattle.cache_lists.specs.Freeing
pub use Rattle.cache_lists.specs.Items
pub use Rattle.cache_lists.specs.Linked
pub use Rattle.cache_lists.specs.Looks as ListsLooks
pub use Rattle.cache_lists.specs.Rescues
pub use Rattle.cache_lists.specs.Segments
pub use Rattle.cache_index.specs.Views as NestsViews
pub use Rattle.keyed_hash.specs.Hashes
pub use Rattle.bump_rules.specs.Expiry
