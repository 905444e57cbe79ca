-- A touch, as the contracts of a worker's seat tell it.
use Rattle.std.specs.Prelude.{ℕ}
use Rattle.bump_rules.specs.declared.items.ItemId.{ItemId}
use Rattle.bump_rules.specs.Totals.{how_many}
use Rattle.bump_steps.specs.declared.views.WorkerSheet.{WorkerSheet}
use Rattle.bump_steps.specs.Views.{is_fetch_of}

-- how often the worker set FETCHED of the life, or found it set
abbrev pub fetches_of : ItemId → WorkerSheet → ℕ
fetches_of item worker = how_many (is_fetch_of item.chunk item.generation) worker.steps
