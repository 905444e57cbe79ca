-- The small store of the tests: one worker, and one class of two chunks.
use Rattle.std.specs.Prelude.{◌≡◌, ◌<◌, List, [], ◌∷◌, None}
use Rattle.bump_rules.specs.declared.configs.Config.{Config}
use Rattle.bump_rules.specs.declared.hands.Hand.TheVariants.{Idle}
use Rattle.bump_rules.specs.declared.history.Change.{Change}
use Rattle.bump_readers.specs.declared.views.HoldView.{HoldView}
use Rattle.bump_readers.specs.declared.views.WorkerView.{WorkerView}
use Rattle.bump_readers.specs.Seats.{row_in}
use Rattle.bump_readers.specs.Taking.{whole_hold}
use Rattle.bump_readers.specs.Workers.{worker_seen}
use Rattle.bump_heads.specs.declared.views.ClassView.{ClassView}
use Rattle.bump_heads.specs.Making.{class_seen}
use Rattle.bump_steps.specs.declared.views.ClassSheet.{ClassSheet}
use Rattle.bump_steps.specs.Rule.{chunks as all_chunks, no_accounts, worker_sheet}

-- such a store's configuration
abbrev pub HasSmallClass : Config → Type 0
HasSmallClass config = (config.workers ≡ 1) × (config.classes ≡ record { chunks = 2; hot = 1; warm = 1 } ∷ [])

-- and its first generation is 1
abbrev pub IsSmall : Config → Type 0
IsSmall config = HasSmallClass config × (config.first_generation ≡ 1)

-- its class, of which no chunk had a life
abbrev pub fresh_class : ClassSheet
fresh_class = record {
  class = 0;
  first = 0;
  count = 2;
  fresh = 0;
  history = [];
  labels = [];
  words = [];
  applying = None;
  steps = [];
}

-- the class that had this history, and no lane joined
abbrev pub IsInHistory : List Change → ClassView → Type 0
IsInHistory history class = (class.lane ≡ None) × (class.sheet.first ≡ 0) × (class.sheet.count ≡ 2)
    × (class.sheet.fresh ≡ 0) × (class.sheet.history ≡ history)

-- the store is such a one, and neither its class nor its worker made a step
abbrev pub IsNew : Config → ClassView → WorkerView → Type 0
IsNew config class worker = (all_chunks config ≡ 2) × (class ≡ class_seen fresh_class)
    × (worker ≡ worker_seen (worker_sheet 0))

-- the worker has nothing in its hand and attempted nothing, and the hold is a whole one of a chunk of the store
abbrev pub MayHit : Config → WorkerView → HoldView → Type 0
MayHit config worker hold = (worker.sheet.hand ≡ Idle) × (worker.hold ≡ None) × (worker.sheet.accounts ≡ no_accounts)
    × (hold ≡ whole_hold hold.life (row_in hold.sheet)) × (hold.life.chunk < all_chunks config)
