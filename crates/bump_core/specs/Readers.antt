-- What the readers of a World tell, by number.
use Rattle.std.specs.Prelude.{ℕ, List}
use Rattle.bump_rules.specs.declared.places.Place.{Place}
use Rattle.bump_rules.specs.declared.items.ItemId.{ItemId}
use Rattle.bump_rules.specs.declared.bumps.Accounts.{Accounts}
use Rattle.bump_rules.specs.declared.bumps.AppliedBump.{AppliedBump}
use Rattle.bump_rules.specs.declared.history.Change.{Change}
use Rattle.bump_rules.specs.Lists.{list_at}
use Rattle.model_state.specs.State.{State, chunk_at, class_at, worker_at}

-- a list of a class
abbrev pub class_list : State → ℕ → Place → List ℕ
class_list state class place = list_at (class_at state class).lists place

-- the history of a class
abbrev pub history_of : State → ℕ → List Change
history_of state class = (class_at state class).history

-- a chunk's time, label and number of holds
abbrev pub time_of : State → ℕ → ℕ
time_of state chunk = (chunk_at state chunk).time

abbrev pub label_of : State → ℕ → ℕ
label_of state chunk = (chunk_at state chunk).label

abbrev pub holds_at : State → ℕ → ℕ
holds_at state chunk = (chunk_at state chunk).holds

-- a worker's accounts, and the bumps that its ring sent, that its lane received and that its lane applied
abbrev pub accounts_of : State → ℕ → Accounts
accounts_of state worker = (worker_at state worker).accounts

abbrev pub sent_of : State → ℕ → List ItemId
sent_of state worker = (worker_at state worker).sent

abbrev pub received_of : State → ℕ → List ItemId
received_of state worker = (worker_at state worker).received

abbrev pub applied_of : State → ℕ → List AppliedBump
applied_of state worker = (worker_at state worker).applied

-- the limits of HOT and WARM in a class
abbrev pub limits_of : State → ℕ → ℕ × ℕ
limits_of state class = ((class_at state class).hot_limit, (class_at state class).warm_limit)
