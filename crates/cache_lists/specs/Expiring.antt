-- What the end of an item comes to that has expired.
use Rattle.std.specs.Prelude.{◌≡◌, ℕ, ◌⊎◌, Bool, true, false, None, Some}
use Rattle.bump_rules.specs.declared.places.Place.TheVariants.{Dying}
use Rattle.bump_rules.specs.declared.places.Segment.{Segment}
use Rattle.bump_rules.specs.Places.{place_of}
use Rattle.bump_steps.specs.declared.views.ClassSheet.{ClassSheet}
use Rattle.bump_steps.specs.Views.{last_label}
use Rattle.bump_rules.specs.Expiry.{has_expired}
use Rattle.cache_lists.specs.Counts.{CountedView, noted, with_crawled}
use Rattle.cache_lists.specs.Ends.{EndsLinked}
use Rattle.cache_lists.specs.Items.{ShowsMarks}
use Rattle.cache_lists.specs.Linked.{linked_at}
use Rattle.cache_lists.specs.Looks.{LooksOnly}

-- the label of a chunk is of an item that has expired at this time, whether it is linked or not
abbrev pub expired_at : ℕ → ClassSheet → ℕ → Bool
expired_at now class chunk = has_expired (last_label class chunk) now

-- The item that was linked at this chunk had expired at this time; it ended, and was counted.
pub record EndsFound (chunk now : ℕ) (before after : CountedView) : Type 0 where
  pub expired : expired_at now before.book.sheet chunk ≡ true
  -- the list from which it was taken
  pub from : Segment
  pub ends : EndsLinked chunk (Some from) before.book after.book
  pub flow : after.flow ≡ noted (Some (place_of from, Dying)) before.flow
  -- a look just behind its end found its marks
  pub fetched : Bool
  pub active : Bool
  pub marks : ShowsMarks chunk fetched active after.book
  pub evictions : after.evictions ≡ with_crawled fetched before.evictions

-- No item was linked at this chunk that had expired at this time, and nothing changed but the steps that the seat notes.
pub record FindsNone (chunk now : ℕ) (before after : CountedView) : Type 0 where
  pub none : (linked_at before.book.sheet chunk ≡ None) ⊎ (expired_at now before.book.sheet chunk ≡ false)
  pub looks : LooksOnly before.book after.book
  pub rest : after ≡ record before { book = after.book }

-- the one, or the other
abbrev pub EndsExpired : ℕ → ℕ → Bool → CountedView → CountedView → Type 0
EndsExpired chunk now true before after = EndsFound chunk now before after
EndsExpired chunk now false before after = FindsNone chunk now before after
