-- What a put comes to.
use Rattle.std.specs.Prelude.{◌≡◌, ◌≢◌, ℕ, ◌+◌, ◌<◌, ◌≤◌, ◌⊎◌, if◌then◌else◌, Bool, true, List, ◌∷◌, length, take, drop, Option, None, Some, IsSome, IfSome, slice_set}
use Rattle.bump_links.specs.Lists.{first_of, times}
use Rattle.bump_rules.specs.declared.items.Head.{Head}
use Rattle.bump_rules.specs.declared.items.ItemId.{ItemId}
use Rattle.bump_rules.specs.declared.places.Place.TheVariants.{Dying, Retired}
use Rattle.bump_rules.specs.declared.places.Start.{Start}
use Rattle.bump_rules.specs.declared.places.Start.TheVariants as start
use Rattle.bump_rules.specs.Lists.{Lists, all_without}
use Rattle.bump_steps.specs.declared.views.ClassSheet.{ClassSheet}
use Rattle.bump_steps.specs.Views.{last_label, last_word, owns}
use Rattle.bump_heads.specs.Linking.{place_of_chunk}
use Rattle.bump_class.specs.Books.{BookView}
use Rattle.bump_class.specs.Changes.{book_with_words}
use Rattle.bump_class.specs.Lanes.{LaneView}
use Rattle.bump_class.specs.Sweeps.{Sweeps}
use Rattle.cache_lists.specs.declared.victims.Victim.{Victim}
use Rattle.cache_lists.specs.Counts.{CountedView}
use Rattle.cache_lists.specs.Freeing.{most_freed, FreesUpTo}
use Rattle.cache_lists.specs.Items.{victim, EndsAt, BeginsAt, HasRow, KeepsItems}
use Rattle.cache_lists.specs.Linked.{linked_at}
use Rattle.cache_lists.specs.Rescues.{Evicts}
use Rattle.cache_lists.specs.Segments.{SameSegments}
use Rattle.cache_index.specs.Views.{Led, led_at, with_generation}
use Rattle.bump_rules.specs.Expiry.{expires_within}
use Rattle.cache_part.specs.declared.putting.NoChunk.{NoChunk}
use Rattle.cache_part.specs.declared.putting.PutItem.{PutItem}
use Rattle.cache_part.specs.Keys.{row_of, value_at}
use Rattle.cache_part.specs.Looks.{LooksOnly}
use Rattle.cache_part.specs.Parts.{PartView, IsItem, IsUnder, IsUnknown, OnlyReads, counted}
use Rattle.cache_part.specs.Tending.{DrainsEach, DrainsWhereHeld}

-- how many items are linked
abbrev pub linked_count : Lists → ℕ
linked_count lists = length lists.hot + length lists.warm + length lists.cold + length lists.temp

-- The item whose turn it was is evicted at this time, which is that of this chunk; it ends, and no other does.
pub record EvictsAt (now chunk : ℕ) (before after : CountedView) : Type 0 where
  pub told : Victim
  pub at : told.chunk ≡ chunk
  pub evicts : Evicts now told before after
  pub ends : EndsAt chunk before.book after.book

-- Where it is held bumps are applied, and then the item is evicted, and its row is read: loads, behind which nothing
-- changed but the steps that the class's seat notes.
pub record EvictsAndReads (most now chunk : ℕ) (before : CountedView) (from : List LaneView) (after : CountedView)
    (to : List LaneView) : Type 0 where
  pub drained : CountedView
  pub drains : DrainsWhereHeld most now before from drained to
  pub between : CountedView
  pub evicts : EvictsAt now chunk drained between
  pub looks : LooksOnly between.book after.book
  pub same : after ≡ record between { book = after.book }

-- The key had an item, or fewer than so many are linked, and nothing is done.
pub record HasRoom (items : ℕ) (old : Option ℕ) (before : CountedView) (from : List LaneView) (after : CountedView)
    (to : List LaneView) : Type 0 where
  pub few : old ≡ None → linked_count before.book.lists < items
  pub same : after ≡ before
  pub lanes : to ≡ from

-- The key had none, and as many as may be are linked; but behind the bumps there is none to evict.
pub record HasNone (items most now : ℕ) (old : Option ℕ) (before : CountedView) (from : List LaneView)
    (after : CountedView) (to : List LaneView) : Type 0 where
  pub new : old ≡ None
  pub full : items ≤ linked_count before.book.lists
  pub drains : DrainsWhereHeld most now before from after to
  pub none : victim after.book.lists ≡ None

-- One item is evicted where the key had none and as many as may be are linked; and else none, also where none is there.
abbrev pub EvictsWhereFull : ℕ → ℕ → ℕ → Option ℕ → Option ℕ → CountedView → List LaneView → CountedView
    → List LaneView → Type 0
EvictsWhereFull items most now old None before from after to =
    HasRoom items old before from after to ⊎ HasNone items most now old before from after to
EvictsWhereFull items most now old (Some chunk) before from after to =
    (old ≡ None) × (items ≤ linked_count before.book.lists) × EvictsAndReads most now chunk before from after to

-- the item of this chunk ended, and each other stays; or none did
abbrev pub EndsEvicted : Option ℕ → BookView → BookView → Type 0
EndsEvicted None before after = KeepsItems before after
EndsEvicted (Some chunk) before after = EndsAt chunk before after

-- a chunk of DYING was looked at, and the head that was found counts a reference: a reader holds its ended item, or a
-- bump does
abbrev pub IsFoundHeld : BookView → (ℕ → Head) → ℕ → Type 0
IsFoundHeld looked heads chunk = (0 < times chunk looked.lists.dying) × (0 < (heads chunk).refs)

-- All bumps that wait are applied, at most so many of each lane; and behind that each chunk of DYING is looked at, and
-- comes free where nobody holds it. What stays in DYING was found held.
pub record DrainsAndSweeps (most now : ℕ) (before : CountedView) (from : List LaneView) (after : CountedView)
    (to : List LaneView) : Type 0 where
  pub drained : CountedView
  pub drains : DrainsEach most now before.book from drained.book to
  pub evictions : drained.evictions ≡ before.evictions
  pub freed : ℕ
  pub heads : ℕ → Head
  pub sweeps : Sweeps drained.book freed after.book heads
  pub same : after ≡ record drained { book = after.book }
  pub held : (chunk : ℕ) → owns chunk after.book.sheet ≡ true → place_of_chunk after.book.sheet chunk ≡ Dying
      → IsFoundHeld drained.book heads chunk

-- Some chunks of ended items come free that nobody holds any more.
pub record FreesSome (before after : CountedView) : Type 0 where
  pub freed : ℕ
  pub heads : ℕ → Head
  pub frees : FreesUpTo most_freed before.book freed after.book heads
  pub same : after ≡ record before { book = after.book }

-- First some come free; and where UNUSED is still empty behind that, the bumps that wait are applied, and all of DYING
-- is looked at once more.
pub record FreesAtLast (most now : ℕ) (before : CountedView) (from : List LaneView) (after : CountedView)
    (to : List LaneView) : Type 0 where
  pub swept : CountedView
  pub frees : FreesSome before swept
  pub ends : ((0 < length swept.book.lists.unused) × (after ≡ swept) × (to ≡ from))
      ⊎ ((length swept.book.lists.unused ≡ 0) × DrainsAndSweeps most now swept from after to)

-- So it is where UNUSED is empty; else nothing changes.
abbrev pub FreesWhereNone : ℕ → ℕ → CountedView → List LaneView → CountedView → List LaneView → Type 0
FreesWhereNone most now before from after to =
    ((0 < length before.book.lists.unused) × (after ≡ before) × (to ≡ from))
    ⊎ ((length before.book.lists.unused ≡ 0) × FreesAtLast most now before from after to)

-- What comes before an item is linked: the key's item is looked for, one is evicted at this time where there are too
-- many, and its row is read, and chunks come free where none is. For the evict, and for that, at most so many bumps of
-- each lane are applied.
pub record MakesRoom (items now : ℕ) (old evicted : Option ℕ) (most : ℕ) (before : CountedView) (from : List LaneView)
    (after : CountedView) (to : List LaneView) : Type 0 where
  pub seen : CountedView
  pub looks : LooksOnly before.book seen.book
  pub same : seen ≡ record before { book = seen.book }
  pub left : CountedView
  pub between : List LaneView
  pub evicts : EvictsWhereFull items most now old evicted seen from left between
  pub frees : FreesWhereNone most now left between after to
  pub evictions : after.evictions ≡ left.evictions

-- Room was made so, but no chunk is free: behind the evict and a first sweep the bumps that wait were applied, and then
-- each chunk of DYING was looked at. Each chunk of the class that has no item has had its last generation, or was found
-- held there.
pub record FindsNone (items now : ℕ) (old evicted : Option ℕ) (most : ℕ) (before : CountedView) (from : List LaneView)
    (after : CountedView) (to : List LaneView) : Type 0 where
  pub room : MakesRoom items now old evicted most before from after to
  pub full : first_of after.book.lists.unused ≡ None
  pub swept : CountedView
  pub frees : FreesSome room.left swept
  pub all : DrainsAndSweeps most now swept room.between after to
  pub each : (chunk : ℕ) → owns chunk after.book.sheet ≡ true → linked_at after.book.sheet chunk ≡ None
      → (place_of_chunk after.book.sheet chunk ≡ Retired) ⊎ IsFoundHeld all.drained.book all.heads chunk

-- the key's old item ended, where it had one
abbrev pub EndsOld : Option ℕ → BookView → BookView → Type 0
EndsOld None before after = after ≡ before
EndsOld (Some chunk) before after =
    EndsAt chunk before after × SameSegments (all_without chunk before.lists) after.lists

-- where an item is linked: in TEMP where it expires within so many ticks from now on, or has; else in HOT
abbrev pub start_of : Option ℕ → ℕ → ℕ → Start
start_of temporary expires now = if expires_within temporary expires now then start.Temp else start.Hot

-- A new item is linked in TEMP or in HOT, at the first chunk of UNUSED, with the time at which it expires as its label,
-- this row and this time; and behind that the key's old item ended.
pub record Links (temporary old : Option ℕ) (row : List ℕ) (expires now : ℕ) (item : ItemId) (before after : BookView)
    : Type 0 where
  pub first : first_of before.lists.unused ≡ Some item.chunk
  pub begun : BookView
  pub linked : begun ≡ book_with_words (start_of temporary expires now) item expires row now before
  pub begins : BeginsAt item before begun
  pub has_row : HasRow item.chunk expires row begun
  pub ends : EndsOld old begun after

-- the index leads to the new item, and no more to the key's old one
abbrev pub leads_anew : ℕ → Option ℕ → ItemId → List (Option Led) → List (Option Led)
leads_anew hash None item index =
    slice_set index item.chunk (Some (record { hash = hash; generation = item.generation }))
leads_anew hash (Some chunk) item index =
    slice_set (slice_set index chunk None) item.chunk (with_generation item.generation (led_at index chunk))

-- What a put comes to: room was made, and then the item was linked.
pub record Puts (old evicted : Option ℕ) (row : List ℕ) (expires now chunk most : ℕ) (before : PartView)
    (from : List LaneView) (after : PartView) (to : List LaneView) : Type 0 where
  pub between : CountedView
  pub room : MakesRoom before.items now old evicted most (counted before) from between to
  pub item : ItemId
  pub at : item.chunk ≡ chunk
  pub links : Links before.temporary old row expires now item between.book after.book
  pub evictions : after.evictions ≡ between.evictions

-- An item that is none of these stays linked as it is, and its words stay.
pub record OthersStay (chunk old evicted : Option ℕ) (before after : BookView) : Type 0 where
  pub linked : (c : ℕ) → chunk ≢ Some c → old ≢ Some c → evicted ≢ Some c
      → linked_at after.sheet c ≡ linked_at before.sheet c
  pub words : (i c : ℕ) → chunk ≢ Some c → last_word i after.sheet c ≡ last_word i before.sheet c

-- the row of a chunk: its label, the words of its key, and then those of its value
abbrev pub row_at : PartView → ℕ → List ℕ
row_at part chunk = row_of (part.key_words + part.value_words) part.book.sheet chunk

-- these words where something is told, and else those that were there before
abbrev pub told_if : Bool → List ℕ → List ℕ → List ℕ
told_if tells words before = if tells then words else before

-- the label of the item that was evicted is told, and so many further words of it; where none was, or nothing is told,
-- what was there before stays
abbrev pub TellsWords : Bool → ℕ → Option ℕ → List ℕ → List ℕ → ClassSheet → Type 0
TellsWords tells count None before after class = after ≡ before
TellsWords tells count (Some chunk) before after class = after ≡ told_if tells (row_of count class chunk) before

-- so its row is
abbrev pub TellsRow : Bool → Option ℕ → List ℕ → List ℕ → PartView → Type 0
TellsRow tells evicted before after part =
    TellsWords tells (part.key_words + part.value_words) evicted before after part.book.sheet

-- no item was linked at the chunk of the new item, but where it is that of the one that was evicted
abbrev pub IsFresh : ℕ → Option ℕ → PartView → Type 0
IsFresh chunk evicted part = evicted ≢ Some chunk → linked_at part.book.sheet chunk ≡ None

-- where one was evicted it was linked, and the key had none
abbrev pub WasAnother : Option ℕ → Option ℕ → PartView → Type 0
WasAnother old evicted part = IfSome evicted (λ chunk. IsSome (linked_at part.book.sheet chunk) × (old ≡ None))

-- when the item of this chunk expires is told, and then its value; where there is none, or nothing is told, what was
-- there before stays
abbrev pub TellsOldWords : Bool → ℕ → ℕ → Option ℕ → List ℕ → List ℕ → ClassSheet → Type 0
TellsOldWords tells key_words value_words None before after class = after ≡ before
TellsOldWords tells key_words value_words (Some chunk) before after class =
    after ≡ told_if tells (last_label class chunk ∷ value_at key_words value_words class chunk) before

-- so it is of a part
abbrev pub TellsOld : Bool → Option ℕ → List ℕ → List ℕ → PartView → Type 0
TellsOld tells old before after part =
    TellsOldWords tells part.key_words part.value_words old before after part.book.sheet

-- What is told of a put: of the item that the key had, in words that were there before; and of the one that was
-- evicted.
pub record Told : Type 0 where
  pub old : List ℕ
  pub evicted : List ℕ

-- A row was put at a chunk. The key's item was the old one, or it had none, and that is told, if anything is; the new
-- one is under the key, with its value, and the old one is linked no more. Each item that is none of these stays. One
-- was evicted only where the key had none: it was linked, its row is told, and it is linked no more, but that the new
-- one may be at its chunk; else nothing was linked at the new one's chunk.
pub record PutsItem (tells : Bool) (did : PutItem) (row : List ℕ) (expires now most : ℕ) (was told : Told) (before : PartView)
    (from : List LaneView) (after : PartView) (to : List LaneView) : Type 0 where
  pub item : IsItem (take before.key_words row) did.old before
  pub had : TellsOld tells did.old was.old told.old before
  pub under : IsUnder (take before.key_words row) did.chunk after
  pub value : value_at before.key_words before.value_words after.book.sheet did.chunk ≡ drop before.key_words row
  pub has_row : HasRow did.chunk expires row after.book
  pub ended : IfSome did.old (λ chunk. linked_at after.book.sheet chunk ≡ None)
  pub others : OthersStay (Some did.chunk) did.old did.evicted before.book after.book
  pub was_another : WasAnother did.old did.evicted before
  pub evicted : TellsRow tells did.evicted was.evicted told.evicted before
  pub gone : IfSome did.evicted (λ c. c ≢ did.chunk → linked_at after.book.sheet c ≡ None)
  pub fresh : IsFresh did.chunk did.evicted before
  pub puts : Puts did.old did.evicted row expires now did.chunk most before from after to

-- Room was made for an item with this key, for which this one was evicted, and at most so many bumps of each lane were
-- applied; and no chunk is free.
pub record FindsNoRoom (key : List ℕ) (evicted : Option ℕ) (now most : ℕ) (before : PartView) (from : List LaneView)
    (after : PartView) (to : List LaneView) : Type 0 where
  pub old : Option ℕ
  pub item : IsItem key old before
  pub none : FindsNone before.items now old evicted most (counted before) from (counted after) to

-- A row wasn't put, since no chunk was free. Each item stays but the one that was evicted, if one was: it was linked,
-- its row is told, and it is linked no more.
pub record RefusesItem (tells : Bool) (why : NoChunk) (row : List ℕ) (now most : ℕ) (was told : Told) (before : PartView)
    (from : List LaneView) (after : PartView) (to : List LaneView) : Type 0 where
  pub had : told.old ≡ was.old
  pub others : OthersStay None None why.evicted before.book after.book
  pub was_linked : IfSome why.evicted (λ c. IsSome (linked_at before.book.sheet c))
  pub evicted : TellsRow tells why.evicted was.evicted told.evicted before
  pub gone : IfSome why.evicted (λ c. linked_at after.book.sheet c ≡ None)
  pub room : FindsNoRoom (take before.key_words row) why.evicted now most before from after to

-- The key's item ended, which is that of this chunk, and the others stay in their lists, in their order.
pub record EndsUnder (key : List ℕ) (chunk : ℕ) (before after : PartView) : Type 0 where
  pub under : IsUnder key chunk before
  pub ends : EndsAt chunk before.book after.book
  pub lists : SameSegments (all_without chunk before.book.lists) after.book.lists

-- the item of a key ended, which is that of this chunk; or the key had none, and nothing changed but what the class's
-- seat notes of its loads
abbrev pub Removes : List ℕ → Option ℕ → PartView → PartView → Type 0
Removes key None before after = IsUnknown key before × OnlyReads before after
Removes key (Some chunk) before after = EndsUnder key chunk before after
