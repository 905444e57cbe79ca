-- The slots of an LRU cache as plain lists.
use Rattle.std.specs.Prelude.{◌≡◌, ℕ, List, [], ◌∷◌, Some}
use Rattle.std.specs.List.{range_with_len}
use Rattle.bump_links.specs.Lists.{Lists, list_at, without, first_of, last_of}
use Rattle.example_links.specs.declared.lru.TakenSlot.{TakenSlot}
use Rattle.example_links.specs.declared.lru.TakenSlot.TheVariants.{Free, Evicted}

-- how many slots there are, those in use, the last touched first, and the free ones
pub record Slots : Type 0 where
  pub count : ℕ
  pub in_use : List ℕ
  pub free : List ℕ

-- list 0 has those in use, list 1 the free ones
abbrev pub slots_of : Lists → Slots
slots_of s = record { count = s.nodes; in_use = list_at s 0; free = list_at s 1 }

-- none is in use, and the free ones ascend
abbrev pub all_free : ℕ → Slots
all_free n = record { count = n; in_use = []; free = range_with_len 0 n }

-- a slot comes to the front of those in use, from wherever it stood, and all others stay
abbrev pub used : ℕ → Slots → Slots
used n s = record s { in_use = n ∷ without n s.in_use; free = without n s.free }

-- What an insert takes: the first free slot or, where none is free, the last one in use. Then it is the first one in
-- use.
abbrev pub Takes : Slots → Slots → TakenSlot → Type 0
Takes old new (Free n) = (first_of old.free ≡ Some n) × (new ≡ used n old)
Takes old new (Evicted n) = (old.free ≡ []) × (last_of old.in_use ≡ Some n) × (new ≡ used n old)
