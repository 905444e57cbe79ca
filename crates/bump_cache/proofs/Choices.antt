-- The reader of a key's part, and what it leaves of the readers.
use Rattle.std.proofs.Common.{◌≡◌, ℕ, List, length, set, map, Option, Some, None, IfSome, IfNone, sym, ap, ◌∙◌, subst}
use Rattle.std.specs.List.{slice_get}
use Rattle.std.specs.Prelude.{Vec}
use Rattle.std.specs.Vec.{with_items}
use Rattle.std.proofs.lemmas.List.{with_items_is}
use Rattle.std.proofs.Math.Seq.{map-set_same}
use Rattle.std.proofs.lemmas.Option.{get_or_from_slice_get}
use Rattle.keyed_hash.specs.declared.seed.Seed.{Seed}
use Rattle.keyed_hash.specs.Hashes.{full_hash_of, hash_of, upper_half}
use Rattle.bump_ring.specs.Ends.{Ring}
use Rattle.cache_readers.specs.Readers.{KeepsRing, ReaderView}
use Rattle.cache_config.specs.Choosing.{part_of}
use Rattle.bump_cache.specs.Readers.{CacheReaderView, InPart, KeepsRings, MissesKey, readers_by}

-- The reader at this place is that of the key's part, and another one stands in its place now.
pub record IsChosen (seed : Seed) (key : List ℕ) (befores afters : List ReaderView) (from to : ReaderView) : Type 0
  where
    pub was : slice_get befores (part_of (length befores) (full_hash_of seed key)) ≡ Some from
    pub is : afters ≡ set befores (part_of (length befores) (full_hash_of seed key)) to

-- so it is, where the part of the full hash of the key's words was lent
pub chosen_in : (seed : Seed) (key words : List ℕ) (befores : List ReaderView) (from to : ReaderView) (full : ℕ)
    → words ≡ key → full ≡ full_hash_of seed words → slice_get befores (part_of (length befores) full) ≡ Some from
    → IsChosen seed key befores (set befores (part_of (length befores) full) to) from to
chosen_in seed key words befores from to full packed hashed read =
    let same : full ≡ full_hash_of seed key = hashed ∙ ap (full_hash_of seed) packed in
    record {
      was = ap (λ h. slice_get befores (part_of (length befores) h)) (sym same) ∙ read;
      is = ap (λ h. set befores (part_of (length befores) h) to) same;
    }

-- and the upper half of that hash is the key's hash
pub is_hash : (seed : Seed) (key words : List ℕ) (full hash : ℕ) → words ≡ key → full ≡ full_hash_of seed words
    → hash ≡ upper_half full → hash ≡ hash_of seed key
is_hash seed key words full hash packed hashed upper =
    upper ∙ ap upper_half (hashed ∙ ap (full_hash_of seed) packed)

module _ (seed : Seed) (key : List ℕ) (befores afters : List ReaderView) (from to : ReaderView)
    (choice : IsChosen seed key befores afters from to) where
  -- what it does is done in the key's part
  pub in_part : (Does : ReaderView → ReaderView → Type 0) → Does from to
      → InPart Does key (readers_by seed befores) (readers_by seed afters)
  in_part Does does = record {
    from = from;
    to = to;
    was = choice.was;
    does = does;
    others = ap (readers_by seed) choice.is;
  }

  -- and so is what it does where it answers something
  pub in_part_some : {A : Type 0} (told : Option A) (Does : A → ReaderView → ReaderView → Type 0)
      → IfSome told (λ it. Does it from to)
      → IfSome told (λ it. InPart (Does it) key (readers_by seed befores) (readers_by seed afters))
  in_part_some None Does does = tt
  in_part_some (Some it) Does does = in_part (Does it) does

  -- or nothing
  pub in_part_none : {A : Type 0} (told : Option A) (Does : ReaderView → ReaderView → Type 0)
      → IfNone told (Does from to)
      → IfNone told (InPart Does key (readers_by seed befores) (readers_by seed afters))
  in_part_none None Does does = in_part Does does
  in_part_none (Some it) Does does = tt

  -- where it keeps its ring, all keep theirs
  pub keeps_rings : KeepsRing from to → KeepsRings (readers_by seed befores) (readers_by seed afters)
  keeps_rings keeps = ap (map ring) choice.is
      ∙ map-set_same ring befores place to from (keeps ∙ ap ring (sym (get_or_from_slice_get befores place from from
      choice.was)))
    where
      ring : ReaderView → Ring
      ring reader = reader.worker.sender.ring

      place : ℕ
      place = part_of (length befores) (full_hash_of seed key)

-- what was done in a part of views is done in that of ones that are the same
pub in_same : (Does : ReaderView → ReaderView → Type 0) (key : List ℕ) (before from to after : CacheReaderView)
    → from ≡ before → to ≡ after → InPart Does key from to → InPart Does key before after
in_same Does key before from to after same end did =
    subst (λ view. InPart Does key view after) same (subst (λ view. InPart Does key from view) end did)

-- so is a miss, which names the seed
pub missed_same : (key : List ℕ) (now : ℕ) (before from to after : CacheReaderView) → from ≡ before → to ≡ after
    → InPart (MissesKey from.seed key now) key from to → InPart (MissesKey before.seed key now) key before after
missed_same key now before from to after same end did =
    subst (λ (view : CacheReaderView). InPart (MissesKey view.seed key now) key view after) same
    (subst (λ view. InPart (MissesKey from.seed key now) key from view) end did)

-- readers that were written into a vector are those that it has
pub written : {Z : Type 0} (seed : Seed) (held : Vec ReaderView Z) (parts : List ReaderView) → length parts ≡ held.len
    → readers_by seed parts ≡ readers_by seed (with_items held parts).items
written seed held parts long = sym (ap (readers_by seed) (with_items_is held parts long))
