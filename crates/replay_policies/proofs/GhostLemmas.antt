-- How many entries an `LruCache` has.
use Rattle.std.proofs.Common.{ℕ, ◌+◌, ◌-◌, ◌≤◌, List, [], ◌∷◌, length, take, Option, Some, None, nat_eq, arith, inl, inr}
use Rattle.std.specs.Option.{option_map_or}
use Rattle.std.specs.Map.{lookup_entry, remove_entry}
use Rattle.std.proofs.lemmas.Bool.Decides.{eqb_tells}
use Rattle.std.proofs.lemmas.List.{length-take}
use Rattle.lru.specs.LruCache.{LruCache, put_entries}

module _ {V : Type 0} (key : ℕ) where
  -- without the entry of a key there are no more
  pub length-removed : (es : List (ℕ × V)) → length (remove_entry (nat_eq key) es) ≤ length es
  length-removed [] = omega arith
  length-removed (e ∷ es) =
      let rest = length-removed es in
      elim (eqb_tells key e.0) [
        | inl t ↦ rw t.0 (omega (arith, rest))
        | inr f ↦ rw f.0 (omega (arith, rest))
      ]

  -- a put makes one more at most
  pub length-put : (c : LruCache ℕ V) (v : V) → length (put_entries nat_eq c key v) ≤ length c.entries + 1
  length-put c v = by (lookup_entry (nat_eq key) c.entries)
    where
      by : (found : Option (ℕ × V))
          → length (option_map_or (λ e. (e.0, v) ∷ remove_entry (nat_eq key) c.entries) found ((key, v) ∷ take (c.cap - 1) c.entries))
          ≤ length c.entries + 1
      by None = let some = length-take (c.cap - 1) c.entries in omega (arith, some)
      by (Some e) = let less = length-removed c.entries in omega (arith, less)
