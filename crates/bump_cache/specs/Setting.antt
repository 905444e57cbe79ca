-- What a put comes to of which only is told whether another item was evicted, by keys and values as words.
use Rattle.std.specs.Prelude.{◌≡◌, ℕ, Bool, List, Option, IfSome, is_some}
use Rattle.cache_part.specs.Parts.{PartView, IsUnknown}
use Rattle.cache_shelf.specs.Entries.{AllKept, Keeps, OthersKept}
use Rattle.cache_shelf.specs.Shelves.{ShelfView}
use Rattle.bump_cache.specs.Putting.{PutsRow, RefusesRow}

-- Something was kept under this key, until some time, and nothing is there now.
pub record LosesKey (key : List ℕ) (before after : PartView) : Type 0 where
  pub value : List ℕ
  pub expires : ℕ
  pub kept : Keeps key value expires before
  pub gone : IsUnknown key after

-- A value was put under a key, both as words: the key keeps it until this time, and under each other key stays what was
-- there, but under that of what was evicted, if something was.
pub record PutsWords (key value : List ℕ) (expires now : ℕ) (has_evicted : Bool) (before after : ShelfView) : Type 0
  where
    pub kept : Keeps key value expires after.part
    pub lost : Option (List ℕ)
    pub told : is_some lost ≡ has_evicted
    pub loses : IfSome lost (λ it. LosesKey it before.part after.part)
    pub others : OthersKept key lost before.part after.part
    pub puts : PutsRow key value expires now has_evicted before after

-- No room was found for a value under the key: under each key stays what was there, but under that of what was evicted.
pub record RefusesWords (key : List ℕ) (now : ℕ) (has_evicted : Bool) (before after : ShelfView) : Type 0 where
  pub lost : Option (List ℕ)
  pub told : is_some lost ≡ has_evicted
  pub loses : IfSome lost (λ it. LosesKey it before.part after.part)
  pub stay : AllKept lost before.part after.part
  pub refuses : RefusesRow key now has_evicted before after
