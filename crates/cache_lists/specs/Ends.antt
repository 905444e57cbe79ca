-- What the end of an item comes to.
use Rattle.std.specs.Prelude.{◌≡◌, ℕ, Option, None, Some, IfSome, IfNone}
use Rattle.bump_links.specs.Lists.{last_of}
use Rattle.bump_rules.specs.declared.places.Place.TheVariants.{Dying}
use Rattle.bump_rules.specs.declared.places.Segment.{Segment}
use Rattle.bump_rules.specs.Lists.{list_at, all_without}
use Rattle.bump_rules.specs.Places.{place_of}
use Rattle.bump_steps.specs.Views.{last_label}
use Rattle.bump_class.specs.Books.{BookView}
use Rattle.bump_rules.specs.Expiry.{has_expired}
use Rattle.cache_lists.specs.declared.victims.Victim.{Victim}
use Rattle.cache_lists.specs.Counts.{CountedView, noted, with_eviction}
use Rattle.cache_lists.specs.Flows.{FlowsTwice, way_to}
use Rattle.cache_lists.specs.Items.{victim, KeepsItems, EndsAt, ShowsMarks}
use Rattle.cache_lists.specs.Linked.{linked_at}
use Rattle.cache_lists.specs.Looks.{LooksOnly}
use Rattle.cache_lists.specs.Ours.{are_ours}
use Rattle.cache_lists.specs.Segments.{SameSegments}

-- The item of a chunk ended, where one was linked there: the list is told in which it was, or None where none was.
pub record EndsLinked (chunk : ℕ) (from : Option Segment) (before after : BookView) : Type 0 where
  -- one was linked, and is no more; no other item ended or was moved
  pub ends : IfSome from (λ s. EndsAt chunk before after)
  pub others : IfSome from (λ s. SameSegments (all_without chunk before.lists) after.lists)
  -- or none was: the linked items stay, each where it is, and nothing changed but the steps that the seat notes
  pub not_linked : IfNone from (linked_at before.sheet chunk ≡ None)
  pub kept : IfNone from (KeepsItems before after)
  pub same : IfNone from (SameSegments before.lists after.lists)
  pub looks : IfNone from (LooksOnly before after)

-- This item ended, and what is told of it is true.
pub record EndsTold (it : Victim) (before after : BookView) : Type 0 where
  -- it was the last of its list, and no other item ended or was moved
  pub list : last_of (list_at before.lists (place_of it.last_of)) ≡ Some it.chunk
  pub ends : EndsAt it.chunk before after
  pub others : SameSegments (all_without it.chunk before.lists) after.lists
  -- where it was moved by the look at it, and from where it ended
  pub flows : FlowsTwice (way_to it.last_of it.moved) (Some (place_of it.from, Dying)) before after
  pub ways : are_ours (way_to it.last_of it.moved)
  -- its label says when it expires
  pub expires : it.expires ≡ last_label before.sheet it.chunk
  -- a look just behind its end found its marks
  pub marks : ShowsMarks it.chunk it.fetched it.active after

-- this one ended, or nothing was changed
abbrev pub EndsOne : Option Victim → BookView → BookView → Type 0
EndsOne None before after = after ≡ before
EndsOne (Some it) before after = EndsTold it before after

-- The item whose turn it is ended, and it was counted, by whether it had expired at this time.
pub record EndsInTurn (now : ℕ) (it : Victim) (before after : CountedView) : Type 0 where
  pub next : victim before.book.lists ≡ Some it.chunk
  pub told : EndsTold it before.book after.book
  pub flow : after.flow ≡ noted (Some (place_of it.from, Dying)) (noted (way_to it.last_of it.moved) before.flow)
  pub evictions : after.evictions ≡ with_eviction (has_expired it.expires now) it.fetched it.active before.evictions

-- and where there was none nothing was changed
abbrev pub EndsNext : ℕ → Option Victim → CountedView → CountedView → Type 0
EndsNext now None before after = (victim before.book.lists ≡ None) × (after ≡ before)
EndsNext now (Some it) before after = EndsInTurn now it before after
