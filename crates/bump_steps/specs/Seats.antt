-- What each step asks of the seat that makes it, and what it leaves of the seat beside its view.
use Rattle.std.specs.Prelude.{◌≡◌, ℕ}
use Rattle.atomic_table.specs.Seated.{TableId}
use Rattle.atomic_table.specs.declared.shared.Seat.{Seat}
use Rattle.bump_steps.specs.declared.views.Empty.{Empty}
use Rattle.bump_steps.specs.declared.views.View.{View}
use Rattle.bump_steps.specs.Places.{HasChunk}

-- the seat is of the table, which has the chunk
abbrev pub IsSeated : TableId → Seat Empty View → ℕ → Type 0
IsSeated table seat chunk = (seat.table_id ≡ table) × HasChunk table chunk

-- it is the same seat of the same table
abbrev pub StaysSeated : Seat Empty View → Seat Empty View → Type 0
StaysSeated before after = (after.table_id ≡ before.table_id) × (after.id ≡ before.id)
