-- What a worker's glance leaves of it.
use Rattle.std.specs.Prelude.{◌≡◌, ℕ, List, false}
use Rattle.bump_rules.specs.declared.items.Head.{Head}
use Rattle.bump_rules.specs.declared.items.ItemId.{ItemId}
use Rattle.bump_steps.specs.References.{IsRow, words_in}
use Rattle.bump_steps.specs.Rule.{RowPredicate}
use Rattle.bump_readers.specs.Glances.{IsLinkedLife, glancing_at, looked_at}
use Rattle.bump_unlocked.specs.Workers.{WorkerState}

-- A worker found this head of an item, which is linked, and glances at it from then on. The row is the item's, and stands
-- in the first of the worker's glances; the table's law holds of it. Nothing else is new to the worker.
pub record Glances (law : RowPredicate) (slots : ℕ) (item : ItemId) (found : Head) (before after : WorkerState)
    : Type 0 where
  pub linked : IsLinkedLife item found
  pub row : List ℕ
  pub long : IsRow slots row
  pub lawful : law (words_in row)
  pub glances : after ≡ record before { sheet = glancing_at item found row before.sheet }

-- the worker loaded the chunk's head, in which no item was linked
pub record FindsNoLife (chunk : ℕ) (before after : WorkerState) : Type 0 where
  pub found : Head
  pub unlinked : found.linked ≡ false
  pub looked : after ≡ record before { sheet = looked_at chunk found before.sheet }
