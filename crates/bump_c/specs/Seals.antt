-- What a handle owns: what a `Box` of its part of a store or of a cache owns, under the name that the handle keeps. No type stands for
-- the name, and what a part owns doesn't depend on one.
use base.Fml.{Fml, ftrue}
use base.Stored.{Coded, coded_list, coded×}
use mathlib.Core.List.{List, [], ◌∷◌}
use mathlib.Core.HProp.{HProp}
use denote.RattleType.{RattleType}
use denote.RawPtr.{Ptr}
use Rattle.std.specs.Box.Ownership.{box_owns}
use Rattle.std.specs.Global.{Global}
use Rattle.std_heap.specs.contracts.GlobalAllocator.TheImpl.{ghosts}
use Rattle.atomic_table.specs.Seated.{TableId, table_id_coded}
use Rattle.bump_readers.specs.declared.names.Name.{Ghosts}
use Rattle.bump_c.specs.One.{any, trivial_proposition, some_table}
use Rattle.bump_handles.specs.contracts.books.TaggedBook as Book
use Rattle.bump_handles.specs.contracts.drainers.Drainer as Lane
use Rattle.bump_handles.specs.contracts.opening.Opened as Store
use Rattle.bump_handles.specs.contracts.readers.Reader as Worker
use Rattle.cache_handles.specs.contracts.opening.OpenedCache as Cache
use Rattle.cache_handles.specs.contracts.parts.BytePart as CachePart
use Rattle.cache_handles.specs.contracts.readers.ByteReader as CacheReader

-- a name of this table, for which this type stands
abbrev pub named : (A : HProp {0}) → TableId → Ghosts A.0
named A z = record { table = z }

-- the rows of the four parts, where this type stands for the name of this table
abbrev pub book_row : HProp {0} → TableId → RattleType
book_row A z = Book.the_row (any A) (named A z)

abbrev pub lane_row : HProp {0} → TableId → RattleType
lane_row A z = Lane.the_row (any A) (named A z)

abbrev pub store_row : HProp {0} → TableId → RattleType
store_row A z = Store.the_row (any A) (named A z)

abbrev pub worker_row : HProp {0} → TableId → RattleType
worker_row A z = Worker.the_row (any A) (named A z)

-- and those of the three parts of a cache
abbrev pub cache_row : HProp {0} → TableId → RattleType
cache_row A z = Cache.the_row (any A) (named A z)

abbrev pub cache_part_row : HProp {0} → TableId → RattleType
cache_part_row A z = CachePart.the_row (any A) (named A z)

abbrev pub cache_reader_row : HProp {0} → TableId → RattleType
cache_reader_row A z = CacheReader.the_row (any A) (named A z)

module _ (row : HProp {0} → TableId → RattleType) where
  -- what a handle of such a part owns
  abbrev pub owns : Global → Ptr → (z : TableId) → (row trivial_proposition z).Denot → Fml
  owns alloc p z = box_owns (ghosts.dealloc_token alloc) (row trivial_proposition z) p

  -- how its value is coded
  abbrev pub part_coded : Coded (row trivial_proposition some_table).Denot
  part_coded = (row trivial_proposition some_table).coded

module _ {V : Type 0} where
  -- what a slot owns: nothing while it is empty, else what a handle at its address owns
  unfoldable pub slot_owns : (Global → Ptr → TableId → V → Fml) → Global → Ptr → List (TableId × V) → Fml
  slot_owns owned alloc p [] = ftrue
  slot_owns owned alloc p (v ∷ vs) = owned alloc p v.0 v.1

  -- how what lies in a slot is coded
  abbrev pub slot_coded : Coded V → Coded (List (TableId × V))
  slot_coded coded = coded_list (coded× table_id_coded coded)
