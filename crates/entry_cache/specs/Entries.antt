-- What contracts see of an entry that was found.
use Rattle.std.specs.Prelude.{◌≡◌, ℕ, Bool, true, false, Option, None, Some}
use Rattle.bump_rules.specs.Expiry.{has_expired}
use Rattle.entry_cache.specs.declared.misses.EntryMiss.{EntryMiss}
use Rattle.entry_cache.specs.declared.misses.EntryMiss.TheVariants as miss

-- its key, its value, and when it expires
pub record EntryView (K V : Type 0) : Type 0 where
  pub key : K
  pub value : V
  pub expires : ℕ

abbrev pub entry_view : {K V : Type 0} → K → V → ℕ → EntryView K V
entry_view key value expires = record { key = key; value = value; expires = expires }

-- where it lies, and what lies there: it is always something
pub record FoundView (K V : Type 0) : Type 0 where
  pub place : ℕ
  pub entry : Option (EntryView K V)

module _ {K V : Type 0} where
  abbrev pub key_in : EntryView K V → K
  key_in entry = entry.key

  abbrev pub value_in : EntryView K V → V
  value_in entry = entry.value

  abbrev pub expires_in : EntryView K V → ℕ
  expires_in entry = entry.expires

-- what a slot has, if it has something
abbrev pub content : {A : Type 0} → Option (Option A) → Option A
content None = None
content (Some slot) = slot

-- An entry is of the key that is asked for, and hasn't expired.
pub record IsAsked {K V : Type 0} (asks : K → Bool) (now : ℕ) (entry : EntryView K V) : Type 0 where
  pub key : asks entry.key ≡ true
  pub unexpired : has_expired entry.expires now ≡ false

-- An entry lay there that obeys the law, and this holds of it.
pub record LiesThere {K V : Type 0} (Holds : EntryView K V → Type 0) (Is : EntryView K V → Type 0) : Type 0 where
  pub entry : EntryView K V
  pub law : ∥ Holds entry ∥₁
  pub is : Is entry

-- it is of another key
abbrev pub IsOther : {K V : Type 0} → (K → Bool) → EntryView K V → Type 0
IsOther asks entry = asks entry.key ≡ false

-- it is of the key, and has expired
abbrev pub HasExpired : {K V : Type 0} → (K → Bool) → ℕ → EntryView K V → Type 0
HasExpired asks now entry = (asks entry.key ≡ true) × (has_expired entry.expires now ≡ true)

-- why what lies at a place isn't found
abbrev pub IsLack : {K V : Type 0} → (EntryView K V → Type 0) → (K → Bool) → ℕ → EntryMiss → Type 0
IsLack Holds asks now miss.NoRow = ⊥
IsLack Holds asks now miss.Gone = ⊥
IsLack Holds asks now miss.Other = LiesThere Holds (IsOther asks)
IsLack Holds asks now miss.Expired = LiesThere Holds (HasExpired asks now)
