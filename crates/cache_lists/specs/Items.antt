-- What a change of a Book leaves of its linked items.
use Rattle.std.specs.Prelude.{◌≡◌, ◌≢◌, ◌⊎◌, List, [], ℕ, Bool, true, false, ◌==◌, Option, Some, None, option_map, if◌then◌else◌}
use Rattle.bump_rules.specs.declared.bumps.Bump.{Bump}
use Rattle.bump_rules.specs.declared.items.Head.{Head}
use Rattle.bump_rules.specs.declared.items.ItemId.{ItemId}
use Rattle.bump_rules.specs.declared.places.Tail.{Tail}
use Rattle.bump_rules.specs.declared.places.Tail.TheVariants as tail
use Rattle.bump_word.specs.Words.{Fits}
use Rattle.bump_links.specs.Lists.{last_of}
use Rattle.bump_rules.specs.Lists.{Lists}
use Rattle.bump_rules.specs.declared.commands.Pulled.{Pulled}
use Rattle.bump_rules.specs.declared.commands.Pulled.TheVariants as pulled
use Rattle.bump_rules.specs.declared.commands.Pulled.TheVariants.{Empty}
use Rattle.bump_class.specs.Books.{BookView}
use Rattle.bump_class.specs.Changes.{book_after_load}
use Rattle.bump_class.specs.Lanes.{LaneView, carries}
use Rattle.bump_class.specs.Links.{BeginsWith}
use Rattle.cache_lists.specs.declared.victims.Victim.{Victim}
use Rattle.bump_steps.specs.Views.{owns, standing, last_word, last_words}
use Rattle.cache_lists.specs.Linked.{linked_at}

-- the one, and where it is None the other
abbrev pub or_else : Option ℕ → Option ℕ → Option ℕ
or_else None other = other
or_else (Some chunk) other = Some chunk

-- the chunk whose item's turn it is to make room: the last of COLD; where COLD is empty, of WARM; where that is too, of
-- HOT; and where all these are, of TEMP
abbrev pub victim : Lists → Option ℕ
victim lists = or_else (last_of lists.cold) (or_else (last_of lists.warm)
    (or_else (last_of lists.hot) (last_of lists.temp)))

-- what a pull may tell
abbrev pub may_tell : Tail → Pulled → Bool
may_tell from Empty = true
may_tell tail.Hot (pulled.Stay item) = true
may_tell tail.Hot (pulled.Warm item) = true
may_tell tail.Hot (pulled.Cold item) = true
may_tell tail.Warm (pulled.Stay item) = true
may_tell tail.Warm (pulled.Again item) = true
may_tell tail.Warm (pulled.Cold item) = true
may_tell tail.Cold (pulled.Stay item) = true
may_tell tail.Cold (pulled.Warm item) = true
may_tell tail.Evict (pulled.Freed item) = true
may_tell tail.Evict (pulled.Deferred item) = true
may_tell from answer = false

-- the chunk of an item that ended to make room, if one did
abbrev pub chunk_told : Option Victim → Option ℕ
chunk_told told = option_map (λ (it : Victim). it.chunk) told

-- The last that was done is a look at a chunk, which found these marks.
pub record ShowsMarks (chunk : ℕ) (fetched active : Bool) (after : BookView) : Type 0 where
  pub head : Head
  pub between : BookView
  pub look : after ≡ book_after_load chunk head between
  pub fits : Fits head
  pub unlinked : head.linked ≡ false
  pub is_fetched : fetched ≡ head.fetched
  pub is_active : active ≡ head.active

-- it is a Book of the same chunks
pub record IsSameClass (before after : BookView) : Type 0 where
  pub first : after.sheet.first ≡ before.sheet.first
  pub count : after.sheet.count ≡ before.sheet.count

-- the same items are linked, and each chunk has its words still
pub record KeepsItems (before after : BookView) : Type 0 where
  pub class : IsSameClass before after
  pub linked : (c : ℕ) → linked_at after.sheet c ≡ linked_at before.sheet c
  pub words : (i c : ℕ) → last_word i after.sheet c ≡ last_word i before.sheet c

-- the item of this chunk is linked no more, and each chunk has its words still
pub record EndsAt (chunk : ℕ) (before after : BookView) : Type 0 where
  pub class : IsSameClass before after
  pub own : owns chunk before.sheet ≡ true
  pub was : (generation : ℕ) × (linked_at before.sheet chunk ≡ Some generation)
  pub linked : (c : ℕ) → linked_at after.sheet c ≡ (if chunk == c then None else linked_at before.sheet c)
  pub words : (i c : ℕ) → last_word i after.sheet c ≡ last_word i before.sheet c

-- this item is linked, at a chunk at which none was, and each other chunk has its words still
pub record BeginsAt (item : ItemId) (before after : BookView) : Type 0 where
  pub class : IsSameClass before after
  pub own : owns item.chunk before.sheet ≡ true
  pub free : linked_at before.sheet item.chunk ≡ None
  pub linked : (c : ℕ) → linked_at after.sheet c
      ≡ (if item.chunk == c then Some item.generation else linked_at before.sheet c)
  pub words : (i c : ℕ) → (item.chunk == c) ≡ false → last_word i after.sheet c ≡ last_word i before.sheet c

-- the words of this chunk that were stored last begin with this label and these further words
abbrev pub HasRow : ℕ → ℕ → List ℕ → BookView → Type 0
HasRow chunk label words book = BeginsWith label words (last_words book.sheet chunk)

-- A lane has no bump that a Book can apply: none is aboard or known, or the one aboard is of another class's chunk, or
-- of another life than the chunk has.
abbrev pub HasNoBumpFor : BookView → LaneView → Type 0
HasNoBumpFor book lane = ((carries lane ≡ None) × (lane.known ≡ []))
    ⊎ ((bump : Bump) × (carries lane ≡ Some bump) × ((owns bump.life.chunk book.sheet ≡ false)
    ⊎ ((standing book.sheet bump.life.chunk).1 ≢ bump.life.generation)))
