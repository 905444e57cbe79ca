-- What a put and a removal come to, as a table of keys and values.
use Rattle.std.specs.Prelude.{◌≡◌, ℕ, Bool, List, take, drop, Option, None}
use Rattle.bump_steps.specs.Rule.{RowPredicate}
use Rattle.cache_part.specs.declared.putting.NoChunk.{NoChunk}
use Rattle.cache_part.specs.declared.putting.PutItem.{PutItem}
use Rattle.cache_part.specs.Parts.{PartView, IsUnknown}
use Rattle.cache_part.specs.Putting.{FindsNoRoom, Puts, Removes, Told}
use Rattle.cache_shelf.specs.Entries.{AllKept, EvictedIf, Had, HadIf, Keeps, OthersKept, key_of_evicted}
use Rattle.cache_shelf.specs.Shelves.{ShelfView}
use Rattle.cache_shelf.specs.Turns.{PutsInTurn}

-- A row was put, in turn: the key keeps its value until its time, what the key had and what was evicted is told, if
-- anything is, and under each other key but the evicted one's it keeps what it kept.
pub record PutsEntry (tells : Bool) (law : RowPredicate) (did : PutItem) (row : List ℕ) (expires now : ℕ) (was told : Told)
    (before after : ShelfView) : Type 0 where
  pub kept : Keeps (take before.part.key_words row) (drop before.part.key_words row) expires after.part
  pub had : HadIf tells law (take before.part.key_words row) did.old was.old told.old before.part
  pub evicted : EvictedIf tells law did.evicted was.evicted told.evicted before.part after.part
  pub others : OthersKept (take before.part.key_words row) (key_of_evicted did.evicted before.part) before.part
      after.part
  pub puts : PutsInTurn (Puts did.old did.evicted row expires now did.chunk) now before after

-- A row wasn't put, since no chunk was free, in turn: what was evicted is told, if anything is, and under each key but
-- that one's it keeps what it kept.
pub record RefusesEntry (tells : Bool) (law : RowPredicate) (why : NoChunk) (row : List ℕ) (now : ℕ) (was told : Told)
    (before after : ShelfView) : Type 0 where
  pub had : told.old ≡ was.old
  pub evicted : EvictedIf tells law why.evicted was.evicted told.evicted before.part after.part
  pub stay : AllKept (key_of_evicted why.evicted before.part) before.part after.part
  pub refuses : PutsInTurn (FindsNoRoom (take before.part.key_words row) why.evicted now) now before after

-- What the key had is told, and nothing is kept under it now; under each other key it keeps what it kept. The item
-- ended, which is that of this chunk, or the key had none.
pub record RemovesEntry (law : RowPredicate) (key : List ℕ) (chunk : Option ℕ) (old words : List ℕ)
    (before after : PartView) : Type 0 where
  pub had : Had law key chunk old words before
  pub gone : IsUnknown key after
  pub others : OthersKept key None before after
  pub removes : Removes key chunk before after
