-- Places of which a closure was asked, one after the other.
use Rattle.std.proofs.Common.{◌≡◌, ℕ, suc, ◌+◌, ◌-◌, ◌≤◌, Bool, List, refl, subst, arith}
use Rattle.cache_shelf.specs.Shelves.{ShelfView}
use Rattle.bump_cache.specs.Retaining.{AsksAt, AsksFrom, ended_of}
use Rattle.bump_cache.specs.declared.answers.Asked.{Asked}
use Rattle.bump_cache.specs.declared.answers.Asked.TheVariants as asked
use Rattle.bump_cache.specs.declared.answers.Item.{Item}

module _ {K V F : Type 0} (fits_key : K → Type 0) (key_words : K → List ℕ) (fits_value : V → Type 0)
    (value_words : V → List ℕ) (Calls : F → Item K V → Bool → F → Type 0) (first now : ℕ) where
  -- before the first place nothing was asked
  pub asks_none : (from : F) (shelf : ShelfView)
      → AsksFrom fits_key key_words fits_value value_words Calls first (first - first) now 0 from from shelf shelf
  asks_none from shelf =
      let none : 0 ≡ first - first = omega arith in
      subst (λ n. AsksFrom fits_key key_words fits_value value_words Calls first n now 0 from from shelf shelf) none
      (refl, refl, refl)

  -- and at the next one it is asked once more
  pub asks_more : (place so_far ended : ℕ) → first ≤ place → (did : Asked) (from keep to : F)
      (before between after : ShelfView)
      → AsksFrom fits_key key_words fits_value value_words Calls first (place - first) now so_far from keep before between
      → AsksAt fits_key key_words fits_value value_words Calls did place now keep to between after
      → ended ≡ so_far + ended_of did
      → AsksFrom fits_key key_words fits_value value_words Calls first (place + 1 - first) now ended from to before after
  asks_more place so_far ended low did from keep to before between after asks one sum =
      let more : suc (place - first) ≡ place + 1 - first = omega (arith, low) in
      let at : place ≡ first + (place - first) = omega (arith, low) in
      subst (λ n. AsksFrom fits_key key_words fits_value value_words Calls first n now ended from to before after) more (
        between,
        keep,
        so_far,
        did,
        asks,
        subst (λ p. AsksAt fits_key key_words fits_value value_words Calls did p now
            keep to between after) at one,
        sum,
      )

-- at a place one item ends at most
pub ended_few : (did : Asked) → ended_of did ≤ 1
ended_few asked.NoPlace = omega arith
ended_few asked.Empty = omega arith
ended_few asked.Stays = omega arith
ended_few asked.Ended = omega arith
