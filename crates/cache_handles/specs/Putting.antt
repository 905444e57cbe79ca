-- What puts of byte strings come to.
use Rattle.std.specs.Prelude.{◌≡◌, ℕ, ◌%◌, ◌^◌, Bool, false, if◌then◌else◌, nat_lt, List, slice_index, Option, None, Some, IfNone, IfSome}
use Rattle.cache_shelf.specs.Entries.{Keeps}
use Rattle.cache_shelf.specs.Shelves.{ShelfView}
use Rattle.bump_rules.specs.Expiry.{has_expired}
use Rattle.bump_cache.specs.Changing.{BehindLook, HadSome, OnlyFinds}
use Rattle.bump_cache.specs.Putting.{HadValue}
use Rattle.bump_cache.specs.Setting.{PutsWords, RefusesWords}
use Rattle.cache_handles.specs.declared.keys.KeyFault.{KeyFault}
use Rattle.cache_handles.specs.declared.keys.KeyFault.TheVariants as key_is
use Rattle.cache_handles.specs.declared.putting.PutTold.{PutTold}
use Rattle.cache_handles.specs.declared.putting.PutTold.TheVariants as told
use Rattle.cache_handles.specs.Rows.{value_row}
use Rattle.cache_handles.specs.Views.{BytePartView, fault_in}

-- something was found under the key, or nothing, and no more was done
abbrev pub FindsSome : List ℕ → ℕ → ShelfView → ShelfView → Type 0
FindsSome key now before after = (value : List ℕ) × OnlyFinds key (Some value) now before after

-- what a put comes to
abbrev pub Puts : List ℕ → List ℕ → ℕ → ℕ → ShelfView → ShelfView → PutTold → Type 0
Puts key value expires now before after (told.Done evicted) = PutsWords key value expires now evicted before after
Puts key value expires now before after (told.NoRoom evicted) = RefusesWords key now evicted before after
Puts key value expires now before after other = ⊥

-- what an add comes to: where the key has nothing a look finds that, and it is put
abbrev pub Adds : List ℕ → List ℕ → ℕ → ℕ → ShelfView → ShelfView → PutTold → Type 0
Adds key value expires now before after told.Has = FindsSome key now before after
Adds key value expires now before after (told.Done evicted) = HadValue key None now before.part
    × BehindLook (PutsWords key value expires now evicted) before after
Adds key value expires now before after (told.NoRoom evicted) = HadValue key None now before.part
    × BehindLook (RefusesWords key now evicted) before after
Adds key value expires now before after other = ⊥

-- What a call comes to that puts where the key has something: a look finds these words and the time at which they expire,
-- and what is made of both is put.
abbrev pub PutsAnewBy : (List ℕ → List ℕ) → (ℕ → ℕ) → List ℕ → ℕ → ShelfView → ShelfView → PutTold → Type 0
PutsAnewBy make until key now before after told.Nothing = OnlyFinds key None now before after
PutsAnewBy make until key now before after (told.Done evicted) = (had : List ℕ) × (expires : ℕ)
    × (has_expired expires now ≡ false) × Keeps key had expires before.part
    × BehindLook (PutsWords key (make had) (until expires) now evicted) before after
PutsAnewBy make until key now before after (told.NoRoom evicted) = HadSome key now before.part
    × BehindLook (RefusesWords key now evicted) before after
PutsAnewBy make until key now before after other = ⊥

-- a replacement puts another value
abbrev pub Replaces : List ℕ → List ℕ → ℕ → ℕ → ShelfView → ShelfView → PutTold → Type 0
Replaces key value expires now = PutsAnewBy (λ had. value) (λ until. expires) key now

-- an update puts other bytes, and flags and time stay
abbrev pub Updates : ℕ → List ℕ → List ℕ → ℕ → ShelfView → ShelfView → PutTold → Type 0
Updates width key bytes now =
    PutsAnewBy (λ had. value_row width (slice_index had 0 % 2 ^ 32) bytes) (λ until. until) key now

-- a touch puts the same value, until another time
abbrev pub Touches : List ℕ → ℕ → ℕ → ShelfView → ShelfView → PutTold → Type 0
Touches key expires now = PutsAnewBy (λ had. had) (λ until. expires) key now

-- the answer for a key that isn't one of the part
abbrev pub told_of_fault : KeyFault → PutTold
told_of_fault key_is.TooLong = told.KeyBytes
told_of_fault key_is.OtherPart = told.OtherPart

-- why a value isn't put: its key isn't one of the part, or it is too long itself
abbrev pub fault_of : Option KeyFault → ℕ → ℕ → Option PutTold
fault_of (Some fault) most value_length = Some (told_of_fault fault)
fault_of None most value_length = if nat_lt most value_length then Some told.ValueBytes else None

-- why a value of so many bytes isn't put under a key
abbrev pub put_fault : BytePartView → List ℕ → ℕ → Option PutTold
put_fault part key value_length = fault_of (fault_in part key) part.value_bytes value_length

-- What a call that puts comes to: exactly where there is a fault that is told, and nothing is changed; else it does this.
pub record TellsPut (Does : ShelfView → ShelfView → PutTold → Type 0) (key : List ℕ) (value_length : ℕ)
    (before after : BytePartView) (answer : PutTold) : Type 0 where
  pub fault : IfSome (put_fault before key value_length) (λ why. (answer ≡ why) × (after ≡ before))
  pub does : IfNone (put_fault before key value_length) (Does before.shelf after.shelf answer)
  pub rest : after ≡ record before { shelf = after.shelf; found = after.found; entry = after.entry }
