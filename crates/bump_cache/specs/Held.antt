-- What contracts see of an item that a reader of a cache holds, and what a get that hands none out leaves of the
-- reader.
use Rattle.std.specs.Prelude.{◌≡◌, Option}
use Rattle.std.specs.Borrow.{Fml, GName, MutBor, RattleType, RestsIfNone}
use Rattle.bump_readers.specs.declared.names.Name.{Ghosts}
use Rattle.packed_words.specs.declared.packed.Packed.{Ghosts as PackedGhosts}
use Rattle.bump_steps.specs.declared.views.HoldSheet.{HoldSheet}
use Rattle.bump_cache.specs.declared.held.HeldItem.{HeldItem}
use Rattle.bump_cache.specs.contracts.readers.CacheReader.{the_row}
use Rattle.bump_cache.specs.Readers.{CacheReaderView}

module _ {N K V : Type 0} where
  -- the name of the loan by which the item has its reader
  abbrev pub loan_of : HeldItem N K V → GName
  loan_of held = held.reader.ghost_name

  -- the reader, as it is once the loan ends
  abbrev pub reader_of : HeldItem N K V → CacheReaderView
  reader_of held = held.reader.now

  -- the hold: the life, and the words that were stored for it
  abbrev pub hold_of : HeldItem N K V → HoldSheet
  hold_of held = held.hold

  -- nothing is new to a held item
  pub record IsSame (before after : HeldItem N K V) : Type 0 where
    pub loan : loan_of after ≡ loan_of before
    pub reader : reader_of after ≡ reader_of before
    pub hold : hold_of after ≡ hold_of before

module _ (N K V : RattleType) (name : Ghosts N.Denot) (key : PackedGhosts K.Denot) (value : PackedGhosts V.Denot)
  where
    -- where no item is handed out the reader ends as this says, and else as its loan to the item leaves it
    abbrev pub EndsIfNone : MutBor CacheReaderView → Option (HeldItem N.Denot K.Denot V.Denot)
        → (CacheReaderView → Type 0) → Fml
    EndsIfNone reader = RestsIfNone (the_row N K V name key value) reader loan_of
