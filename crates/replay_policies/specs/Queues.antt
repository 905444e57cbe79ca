-- What a contract sees of two queues of keys.
use Rattle.std.specs.Prelude.{◌≡◌, ℕ, ◌+◌, ◌<◌, ◌≤◌, List, Option}
use Rattle.replay_policies.specs.Lines.{LineView}
use Rattle.replay_policies.specs.Tables.{HasPlace, held}

-- of each queue: how many keys there is memory for, how many are in it, all their uses together, and the table of their
-- places
pub record QueuesView : Type 0 where
  pub first_room : ℕ
  pub second_room : ℕ
  pub first_count : ℕ
  pub second_count : ℕ
  pub first_uses : ℕ
  pub second_uses : ℕ
  pub first_table : List (List (Option ℕ))
  pub second_table : List (List (Option ℕ))

-- what two queues show
abbrev pub queues_view : LineView → LineView → QueuesView
queues_view first second = record {
  first_room = first.room;
  second_room = second.room;
  first_count = first.count;
  second_count = second.count;
  first_uses = first.uses;
  second_uses = second.uses;
  first_table = first.table;
  second_table = second.table;
}

-- in how many of the two a key is
abbrev pub held_by : QueuesView → ℕ → ℕ
held_by q key = held q.first_table key + held q.second_table key

-- there is a place for a key in the table of either queue
pub record HasPlaces (q : QueuesView) (key : ℕ) : Type 0 where
  pub first : HasPlace q.first_table key
  pub second : HasPlace q.second_table key

-- no key is in both queues, and each that is in one has its places
pub record IsQueues (q : QueuesView) : Type 0 where
  pub once : (key : ℕ) → held_by q key ≤ 1
  pub placed : (key : ℕ) → 0 < held_by q key → HasPlaces q key

-- no key came in that wasn't there, and each place is still there
pub record IsLeft (old new : QueuesView) : Type 0 where
  pub absent : (key : ℕ) → held_by old key ≡ 0 → held_by new key ≡ 0
  pub places : (key : ℕ) → HasPlaces old key → HasPlaces new key
