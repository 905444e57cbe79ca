-- What looks at a part of byte strings come to, and removals.
use Rattle.std.specs.Prelude.{◌≡◌, ℕ, Bool, true, false, List, ◌∷◌, slice_index, None, Some, IfNone, IfSome}
use Rattle.cache_part.specs.Parts.{PartView, IsUnknown}
use Rattle.cache_shelf.specs.Entries.{Keeps, OthersKept, ReadsShelf}
use Rattle.cache_shelf.specs.Shelves.{ShelfView, with_ended}
use Rattle.bump_rules.specs.Expiry.{has_expired}
use Rattle.bump_cache.specs.Putting.{EndsKey, HadValue}
use Rattle.cache_handles.specs.declared.keys.KeyFault.{KeyFault}
use Rattle.cache_handles.specs.declared.keys.KeyFault.TheVariants as key_is
use Rattle.cache_handles.specs.declared.looking.LookTold.{LookTold}
use Rattle.cache_handles.specs.declared.looking.LookTold.TheVariants as looked
use Rattle.cache_handles.specs.declared.looking.Looked.{Looked}
use Rattle.cache_handles.specs.Rows.{TellsValue}
use Rattle.cache_handles.specs.Views.{BytePartView, fault_in, key_row}

-- these words are the time at which what the key has expires, which hasn't, and its value
pub record HadWords (key : List ℕ) (now : ℕ) (words : List ℕ) (part : PartView) : Type 0 where
  pub value : List ℕ
  pub expires : ℕ
  pub words_are : words ≡ expires ∷ value
  pub unexpired : has_expired expires now ≡ false
  pub kept : Keeps key value expires part

-- what the key has, and when it expires, is told, by what was found
pub record TellsKept (key : List ℕ) (now : ℕ) (told : Looked) (found : List ℕ) (part : PartView) : Type 0 where
  pub had : HadWords key now found part
  pub expires_is : told.expires ≡ had.expires
  pub value : TellsValue (λ i. slice_index had.value i) told.value.flags told.value.length

-- what a look of a key of the part comes to
abbrev pub Looks : List ℕ → ℕ → List ℕ → PartView → LookTold → Type 0
Looks key now found part (looked.Found told) = TellsKept key now told found part
Looks key now found part looked.Nothing = HadValue key None now part
Looks key now found part looked.KeyBytes = ⊥

-- A key that isn't one of the part has nothing, or is told as too long.
abbrev pub told_of_fault : KeyFault → LookTold
told_of_fault key_is.TooLong = looked.KeyBytes
told_of_fault key_is.OtherPart = looked.Nothing

-- What a look comes to: of what a key of the part has; or where the key isn't one, nothing is changed.
pub record TellsLook (key : List ℕ) (now : ℕ) (before after : BytePartView) (answer : LookTold) : Type 0 where
  pub fault : IfSome (fault_in before key) (λ why. (answer ≡ told_of_fault why) × (after ≡ before))
  pub looks : IfNone (fault_in before key) (Looks (key_row before key) now after.found before.shelf.part answer)
  pub reads : IfNone (fault_in before key) (ReadsShelf before.shelf after.shelf)
  pub rest : after ≡ record before { shelf = after.shelf; found = after.found }

-- the key had something that hadn't expired, or it had not
abbrev pub HadIf : Bool → List ℕ → ℕ → PartView → Type 0
HadIf true key now part = (value : List ℕ) × HadValue key (Some value) now part
HadIf false key now part = HadValue key None now part

-- The key's item ended, if it had one, also where that had expired: nothing is under it now, and under each other key
-- stays what was there.
pub record RemovesKey (key : List ℕ) (now : ℕ) (had : Bool) (before after : ShelfView) : Type 0 where
  pub old : HadIf had key now before.part
  pub gone : IsUnknown key after.part
  pub others : OthersKept key None before.part after.part
  pub ends : EndsKey key before.part after.part
  pub same : after ≡ with_ended after before

-- what a removal comes to
pub record TellsRemove (key : List ℕ) (now : ℕ) (before after : BytePartView) (answer : Bool) : Type 0 where
  pub fault : IfSome (fault_in before key) (λ why. (answer ≡ false) × (after ≡ before))
  pub removes : IfNone (fault_in before key) (RemovesKey (key_row before key) now answer before.shelf after.shelf)
  pub rest : after ≡ record before { shelf = after.shelf; found = after.found }
