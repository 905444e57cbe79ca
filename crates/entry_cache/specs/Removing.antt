-- What contracts see of a removal's answer, and what it tells.
use Rattle.std.specs.Prelude.{◌≡◌, ⊤, ℕ, Bool, Option, None, MatchOption}
use Rattle.entry_cache.specs.Entries.{EntryView, FoundView, HasExpired, IsOther, LiesThere}
use Rattle.entry_cache.specs.declared.misses.EntryMiss.{EntryMiss}
use Rattle.entry_cache.specs.declared.misses.EntryMiss.TheVariants as miss

-- where the entry of the key's hash lay, that entry if it is told, and why it isn't
pub record RemovedView (K V : Type 0) : Type 0 where
  pub place : Option ℕ
  pub entry : Option (FoundView K V)
  pub missed : EntryMiss

-- this is why no entry is told: the hash had none; or at this place lay one of another key, or one that has expired
abbrev pub TellsLack : {K V : Type 0} → (ℕ → EntryView K V → Type 0) → (K → Bool) → ℕ → Option ℕ → EntryMiss → Type 0
TellsLack Holds asks now place miss.NoRow = place ≡ None
TellsLack Holds asks now place miss.Gone = ⊤
TellsLack Holds asks now place miss.Other = MatchOption place ⊥ (λ at. LiesThere (Holds at) (IsOther asks))
TellsLack Holds asks now place miss.Expired = MatchOption place ⊥ (λ at. LiesThere (Holds at) (HasExpired asks now))
