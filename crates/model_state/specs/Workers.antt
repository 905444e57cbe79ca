-- What the workers of the program stand for, and what is counted of all of them.
use Rattle.std.specs.Prelude.{◌≡◌, ◌<◌, ◌^◌, ℕ, Bool, not, List, length, map, take, is_some, slice_index_or, vec_len}
use Rattle.std.specs.Vec.{vec_capacity}
use Rattle.model_state.specs.declared.workers.Worker.{Worker}
use Rattle.model_state.specs.State.{WorkerState, new_worker}
use Rattle.bump_rules.specs.Hands.{is_idle}
use Rattle.bump_rules.specs.Lanes.{applied_life}
use Rattle.bump_rules.specs.Totals.{how_many}

-- what a lane took is the first part of what was sent
abbrev pub worker_view : Worker → WorkerState
worker_view worker = record {
  hand = worker.hand;
  is_open = worker.is_open;
  accounts = worker.accounts;
  first_hits = worker.first_hits.items;
  sent = worker.sent.items;
  received = take worker.received worker.sent.items;
  lane = worker.lane;
  applied = worker.applied.items;
}

-- all workers, and one by its number
abbrev pub worker_views : List Worker → List WorkerState
worker_views workers = map worker_view workers

abbrev pub worker_view_at : List Worker → ℕ → WorkerState
worker_view_at workers number = slice_index_or (worker_views workers) number new_worker

-- a worker's list of applied bumps has room for one more
abbrev pub HasRoomToApply : List Worker → ℕ → Type 0
HasRoomToApply workers number =
    (one : Worker) → one ≡ slice_index_or workers number one → vec_len one.applied < vec_capacity one.applied

-- the worker is not Idle
abbrev pub is_not_idle : Worker → Bool
is_not_idle worker = not (is_idle worker.hand)

-- the worker's lane applies a bump
abbrev pub is_applying : Worker → Bool
is_applying worker = is_some (applied_life worker.lane)

-- so many of the workers are not Idle, and so many of their lanes apply a bump
pub record AreCounted (hands lanes : ℕ) (workers : List Worker) : Type 0 where
  pub not_idle : hands ≡ how_many is_not_idle workers
  pub applying : lanes ≡ how_many is_applying workers
  pub few : length workers < 2 ^ 32
