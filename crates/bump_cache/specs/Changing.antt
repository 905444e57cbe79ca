-- What calls do that look first, and put where it is due.
use Rattle.std.specs.Prelude.{◌≡◌, ⊤, ℕ, false, List, Option, None, Some, IfSome, MatchOption, is_some}
use Rattle.cache_part.specs.Parts.{PartView}
use Rattle.cache_shelf.specs.Entries.{AllKept, Keeps, OthersKept, ReadsShelf}
use Rattle.cache_shelf.specs.Shelves.{ShelfView}
use Rattle.bump_rules.specs.Expiry.{has_expired}
use Rattle.bump_cache.specs.declared.answers.Added.{Added}
use Rattle.bump_cache.specs.declared.answers.Added.TheVariants as added
use Rattle.bump_cache.specs.declared.answers.Evicted.{Evicted}
use Rattle.bump_cache.specs.declared.answers.GotOrPut.{GotOrPut}
use Rattle.bump_cache.specs.declared.answers.GotOrPut.TheVariants as got
use Rattle.bump_cache.specs.declared.answers.NoRoom.{NoRoom}
use Rattle.bump_cache.specs.declared.answers.Put.{Put}
use Rattle.bump_cache.specs.Putting.{HadValue, PutsRow, RefusesRow, WasEvicted, evicted_key}

-- what an add came to: what the key has, or what was evicted for what was put
abbrev pub MatchAdded : {K V : Type 0} → Added K V → (V → Type 0) → (Option (Evicted K V) → Type 0) → Type 0
MatchAdded (added.Put evicted) Has Puts = Puts evicted
MatchAdded (added.Has value) Has Puts = Has value

-- what a get came to that puts: what was there; or what was made, and what was evicted for it
abbrev pub MatchGot : {K V : Type 0} → GotOrPut K V → (V → Type 0) → (V → Option (Evicted K V) → Type 0) → Type 0
MatchGot (got.Got value) Is Puts = Is value
MatchGot (got.Put value evicted) Is Puts = Puts value evicted

-- where something was there, this holds of it
abbrev pub IfGot : {K V : Type 0} → GotOrPut K V → (V → Type 0) → Type 0
IfGot did Is = MatchGot did Is (λ value evicted. ⊤)

-- this value was kept under the key until this time, and hadn't expired; or nothing was, but what had expired
abbrev pub HadUntil : {V : Type 0} → (V → Type 0) → (V → List ℕ) → List ℕ → Option (V × ℕ) → ℕ → PartView → Type 0
HadUntil fits as_words key None now part = HadValue key None now part
HadUntil fits as_words key (Some it) now part =
    fits it.0 × (has_expired it.1 now ≡ false) × Keeps key (as_words it.0) it.1 part

-- something was kept under the key that hadn't expired
abbrev pub HadSome : List ℕ → ℕ → PartView → Type 0
HadSome key now part = (value : List ℕ) × HadValue key (Some value) now part

-- a closure was called once, with what the key had that hadn't expired: `Answers` is its call
abbrev pub CallsOnHad : {V : Type 0} → (V → List ℕ) → (V → V → Type 0) → List ℕ → ℕ → PartView → Type 0
CallsOnHad {V} as_words Answers key now part =
    (had value : V) × HadValue key (Some (as_words had)) now part × Answers had value

-- The shelf was looked at, which changes nothing but what the class's seat notes of its loads; and then it did this.
pub record BehindLook (Does : ShelfView → ShelfView → Type 0) (before after : ShelfView) : Type 0 where
  pub between : ShelfView
  pub looks : ReadsShelf before between
  pub does : Does between after

-- A look found this under the key, or nothing, and no more was done.
pub record OnlyFinds (key : List ℕ) (value : Option (List ℕ)) (now : ℕ) (before after : ShelfView) : Type 0 where
  pub had : HadValue key value now before.part
  pub reads : ReadsShelf before after

-- a look told what it found under the key, or that there was nothing, and no more was done
abbrev pub TellsFound : {V : Type 0} → (V → List ℕ) → List ℕ → ℕ → Option V → ShelfView → ShelfView → Type 0
TellsFound value_words key now told before after =
    MatchOption told (OnlyFinds key None now before after) (λ value. OnlyFinds key (Some (value_words value)) now before after)

-- A look found nothing under the key, and a value was put there: the key has it, what was evicted is told, and under
-- each other key stays what was there.
pub record PutsNew {K V : Type 0} (key_words : K → List ℕ) (value_words : V → List ℕ) (key value : List ℕ)
    (expires now : ℕ) (evicted : Option (Evicted K V)) (before after : ShelfView) : Type 0 where
  pub free : HadValue key None now before.part
  pub kept : Keeps key value expires after.part
  pub told : IfSome evicted (λ it. WasEvicted key_words value_words it now before.part after.part)
  pub others : OthersKept key (evicted_key key_words evicted) before.part after.part
  pub puts : BehindLook (PutsRow key value expires now (is_some evicted)) before after

-- A look found nothing under the key, and no room was found for a value: what was evicted is told, and under each other
-- key stays what was there.
pub record RefusesNew {K V : Type 0} (key_words : K → List ℕ) (value_words : V → List ℕ) (key : List ℕ) (now : ℕ)
    (why : NoRoom K V) (before after : ShelfView) : Type 0 where
  pub free : HadValue key None now before.part
  pub told : IfSome why.evicted (λ it. WasEvicted key_words value_words it now before.part after.part)
  pub stay : AllKept (evicted_key key_words why.evicted) before.part after.part
  pub refuses : BehindLook (RefusesRow key now (is_some why.evicted)) before after

-- A look found a value under the key, and another one was put in its place: nothing was evicted, the key has it, and
-- under each other key stays what was there.
pub record PutsAnew (key old value : List ℕ) (expires now : ℕ) (before after : ShelfView) : Type 0 where
  pub had : HadValue key (Some old) now before.part
  pub kept : Keeps key value expires after.part
  pub others : OthersKept key None before.part after.part
  pub puts : BehindLook (PutsRow key value expires now false) before after

-- A look found a value under the key, and no room was found for another one in its place: nothing was evicted, and
-- under each key, and under this one, stays what was there.
pub record RefusesAnew {K V : Type 0} (key : List ℕ) (now : ℕ) (why : NoRoom K V) (before after : ShelfView) : Type 0
  where
    pub had : HadSome key now before.part
    pub none : why.evicted ≡ None
    pub stay : AllKept None before.part after.part
    pub refuses : BehindLook (RefusesRow key now false) before after

-- The value was put in the place of what the key had, which is told; nothing was evicted.
pub record Replaces {K V : Type 0} (value_words : V → List ℕ) (key value : List ℕ) (expires now : ℕ) (did : Put K V)
    (before after : ShelfView) : Type 0 where
  pub old : V
  pub told : did.old ≡ Some old
  pub none : did.evicted ≡ None
  pub puts : PutsAnew key (value_words old) value expires now before after

-- What the key had was changed to this value, as the closure answers it, and expires when it did.
pub record Changes {V : Type 0} (fits : V → Type 0) (value_words : V → List ℕ) (Answers : V → V → Type 0)
    (key : List ℕ) (now : ℕ) (value : V) (before after : ShelfView) : Type 0 where
  pub old : V
  pub in_range : fits old
  pub answers : Answers old value
  pub expires : ℕ
  pub unexpired : has_expired expires now ≡ false
  pub had : Keeps key (value_words old) expires before.part
  pub kept : Keeps key (value_words value) expires after.part
  pub others : OthersKept key None before.part after.part
  pub puts : BehindLook (PutsRow key (value_words value) expires now false) before after

-- an add came to this: the key has something, and no more was done; or the value was put
abbrev pub Adds : {K V : Type 0} → (K → List ℕ) → (V → List ℕ) → List ℕ → List ℕ → ℕ → ℕ → Added K V → ShelfView
    → ShelfView → Type 0
Adds key_words value_words key value expires now did before after =
    MatchAdded did (λ has. OnlyFinds key (Some (value_words has)) now before after)
    (λ evicted. PutsNew key_words value_words key value expires now evicted before after)

-- a replacement: the key has nothing, and no more was done; or the value was put
abbrev pub ReplacesWhereSome : {K V : Type 0} → (V → List ℕ) → List ℕ → List ℕ → ℕ → ℕ → Option (Put K V) → ShelfView
    → ShelfView → Type 0
ReplacesWhereSome value_words key value expires now told before after =
    MatchOption told (OnlyFinds key None now before after)
    (λ did. Replaces value_words key value expires now did before after)

-- a touch: the same, where the value is the one that the key had
abbrev pub TouchesWhereSome : {V : Type 0} → (V → List ℕ) → List ℕ → ℕ → ℕ → Option V → ShelfView → ShelfView → Type 0
TouchesWhereSome value_words key expires now told before after =
    MatchOption told (OnlyFinds key None now before after)
    (λ value. PutsAnew key (value_words value) (value_words value) expires now before after)

-- an update: the same, where it is what the closure answers
abbrev pub ChangesWhereSome : {V : Type 0} → (V → Type 0) → (V → List ℕ) → (V → V → Type 0) → List ℕ → ℕ → Option V
    → ShelfView → ShelfView → Type 0
ChangesWhereSome fits value_words Answers key now told before after =
    MatchOption told (OnlyFinds key None now before after)
    (λ value. Changes fits value_words Answers key now value before after)

-- a get that puts: the key has something, and no more was done; or what the closure answers was put
abbrev pub GetsOrPuts : {K V : Type 0} → (K → List ℕ) → (V → List ℕ) → (V → Type 0) → List ℕ → ℕ → ℕ → GotOrPut K V
    → ShelfView → ShelfView → Type 0
GetsOrPuts key_words value_words Answers key expires now did before after =
    MatchGot did (λ value. OnlyFinds key (Some (value_words value)) now before after)
    (λ value evicted. Answers value
    × PutsNew key_words value_words key (value_words value) expires now evicted before after)
