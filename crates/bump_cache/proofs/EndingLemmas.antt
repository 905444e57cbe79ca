-- What is told of the next item that has expired, and of the one whose turn it is.
use Rattle.std.proofs.Common.{◌≡◌, ℕ, List, length, Option, None, Some, IfNone, IfSome, is_some, if◌then◌else◌, sym, ap, ap₂, ◌∙◌}
use Rattle.bump_class.specs.Lanes.{LaneView}
use Rattle.cache_part.specs.Evicting.{EvictsNext}
use Rattle.cache_part.specs.Parts.{PartView, IsUnder, IsUnknown, counted}
use Rattle.cache_part.specs.Putting.{EvictsAndReads}
use Rattle.cache_part.specs.Taking.{TakesNext}
use Rattle.cache_shelf.specs.Entries.{Evicted as TellsRowOf}
use Rattle.cache_shelf.specs.Shelves.{ShelfView, with_evicted}
use Rattle.cache_shelf.proofs.Keeping.{not_linked}
use Rattle.bump_rules.specs.Expiry.{has_expired}
use Rattle.bump_cache.specs.declared.answers.Cause.TheVariants.{Expired, Room}
use Rattle.bump_cache.specs.declared.answers.Evicted.{Evicted}
use Rattle.bump_cache.specs.Ending.{TakesKey}
use Rattle.bump_cache.specs.Pairs.{IsPair}
use Rattle.bump_cache.specs.Putting.{TellsEvicted, evicted_key}
use Rattle.bump_cache.proofs.Telling.{told_is}

module _ {K V : Type 0} (fits_key : K → Type 0) (key_words : K → List ℕ) (fits_value : V → Type 0)
    (value_words : V → List ℕ) (key_width value_width : ℕ)
    (key_length : (k : K) → fits_key k → length (key_words k) ≡ key_width)
    (value_length : (v : V) → fits_value v → length (value_words v) ≡ value_width)
    (part : PartView) (wide_key : part.key_words ≡ key_width) (wide_value : part.value_words ≡ value_width) where
  -- it had expired
  pub expired_told : (chunk : Option ℕ) (from row : List ℕ) (most now : ℕ) (after : PartView)
      (told : Option (Evicted K V))
      → TellsRowOf (IsPair fits_key key_words fits_value value_words) chunk from row part after
      → is_some told ≡ is_some chunk
      → IfSome told (λ it. TellsEvicted fits_key key_words fits_value value_words row now it)
      → TakesNext most now chunk part after → IfSome told (λ it. it.cause ≡ Expired)
  expired_told chunk from row most now after None gone some is takes = tt
  expired_told None from row most now after (Some it) gone some is takes = absurd (cc some)
  expired_told (Some c) from row most now after (Some it) gone some is takes =
      let one = told_is fits_key key_words fits_value value_words key_width value_width key_length value_length part
      wide_key wide_value c row now it gone.obeys gone.told is in
      is.cause ∙ ap (λ b. if b then Expired else Room)
      (ap (λ at. has_expired at now) (sym one.2) ∙ takes.finds.has.expired)

  -- and it is the one that ended
  pub takes_told : (chunk : Option ℕ) (from row : List ℕ) (most now : ℕ) (after : PartView)
      (told : Option (Evicted K V))
      → TellsRowOf (IsPair fits_key key_words fits_value value_words) chunk from row part after
      → is_some told ≡ is_some chunk
      → IfSome told (λ it. TellsEvicted fits_key key_words fits_value value_words row now it)
      → TakesNext most now chunk part after → TakesKey (evicted_key key_words told) most now part after
  takes_told None from row most now after None gone some is takes = takes
  takes_told None from row most now after (Some it) gone some is takes = absurd (cc some)
  takes_told (Some c) from row most now after None gone some is takes = absurd (cc some)
  takes_told (Some c) from row most now after (Some it) gone some is takes =
      let one = told_is fits_key key_words fits_value value_words key_width value_width key_length value_length part
      wide_key wide_value c row now it gone.obeys gone.told is in
      (c, record { linked = gone.linked; key = one.0 }, takes)

  -- so it is of the one whose turn it was
  pub turn_told : (chunk : Option ℕ) (from row : List ℕ) (most now : ℕ) (after : PartView) (lanes left : List LaneView)
      (told : Option (Evicted K V))
      → TellsRowOf (IsPair fits_key key_words fits_value value_words) chunk from row part after
      → is_some told ≡ is_some chunk
      → IfSome told (λ it. TellsEvicted fits_key key_words fits_value value_words row now it)
      → EvictsNext most now chunk part lanes after left
      → IfSome told (λ it. (c : ℕ) × IsUnder (key_words it.key) c part
      × EvictsAndReads most now c (counted part) lanes (counted after) left)
  turn_told chunk from row most now after lanes left None gone some is evicts = tt
  turn_told None from row most now after lanes left (Some it) gone some is evicts = absurd (cc some)
  turn_told (Some c) from row most now after lanes left (Some it) gone some is evicts =
      let one = told_is fits_key key_words fits_value value_words key_width value_width key_length value_length part
      wide_key wide_value c row now it gone.obeys gone.told is in
      (c, record { linked = gone.linked; key = one.0 }, evicts)

-- where none is told no key had an item
pub none_told : {T : Type 0} (chunk : Option ℕ) (most now : ℕ) (before after : PartView) (lanes left : List LaneView)
    (told : Option T) → is_some told ≡ is_some chunk → EvictsNext most now chunk before lanes after left
    → IfNone told ((key : List ℕ) → IsUnknown key before)
none_told chunk most now before after lanes left (Some it) some evicts = tt
none_told (Some c) most now before after lanes left None some evicts = absurd (cc some)
none_told None most now before after lanes left None some evicts =
    λ key c under. not_linked _ (evicts.0 c) under.linked

-- and then nothing changed
pub still_told : {T : Type 0} (chunk : Option ℕ) (most now : ℕ) (before after : ShelfView) (told : Option T)
    → is_some told ≡ is_some chunk → EvictsNext most now chunk before.part before.lanes after.part after.lanes
    → after ≡ with_evicted after before → IfNone told (after ≡ before)
still_told chunk most now before after (Some it) some evicts same = tt
still_told (Some c) most now before after None some evicts same = absurd (cc some)
still_told None most now before after None some evicts same = same
    ∙ ap₂ (λ (p : PartView) (l : List LaneView). record before {
      part = record before.part { book = p.book; flow = p.flow; evictions = p.evictions; index = p.index };
      lanes = l;
    }) evicts.1 evicts.2
